-- Two worlds that differ in some students' lists, and what these students are shown.
use Rattle.portal_rules.specs.Base.{list_any, AllZip, AllByRecursion, IsBest, number_in}
use Rattle.std.specs.Prelude.{◌≡◌, ◌≢◌, ◌⊎◌, ◌&&◌, ◌<◌, ◌≤◌, true, false, List, [], Option, Some, unwrap_or}
use Rattle.spa_honest.specs.Honest.{IsCut}
use Rattle.portal_rules.specs.declared.view.View.TheVariants as sees
use Rattle.portal_rules.specs.Words.{Key, equals, has}
use Rattle.portal_rules.specs.declared.rows.ProjectRow.{ProjectRow}
use Rattle.portal_rules.specs.World.{World, Lecturer, Student, is_at, first, is_second}
use Rattle.portal_rules.specs.World.{is_published, in_play}
use Rattle.portal_rules.specs.Good.{instance, matching_of, student_keys, placed_to, placed_with, Good}
use Rattle.portal_rules.specs.Calls.{StudentSees}
use Rattle.portal_rules.specs.View.{catalogue, view}
use Rattle.portal_rules.specs.Faults.{in_catalogue}
use Rattle.portal_rules.specs.Answer.{Answer}
use Rattle.portal_rules.specs.Run.{Request, Run}
use Rattle.portal_rules.specs.declared.phase.Phase.TheVariants.{Published}
use Rattle.portal_rules.specs.declared.phase.Round.TheVariants.{First}

-- a good world in published, whose result is student-optimal
pub record HasBest (w : World) : Type 0 where
  pub good : Good w
  pub published : is_published w.phase ≡ true
  pub best : IsBest (instance w) (matching_of w)

-- each shown result is student-optimal: the current round's, and in the second also the first's
pub record ShowsBest (w : World) : Type 0 where
  pub good : Good w
  pub now : is_published w.phase ≡ true → IsBest (instance w) (matching_of w)
  pub before : is_second w.round ≡ true → IsBest (instance (first w)) (matching_of (first w))

-- both keys are on the list, and a comes first
abbrev pub StandsBefore : List Key → Key → Key → Type 0
StandsBefore list a b = (has list b ≡ true) × (number_in list a < number_in list b)

-- two keys that are on both lists have the same order on both
abbrev pub OrderAlike : List Key → List Key → Type 0
OrderAlike xs ys = (a b : Key) → has ys a ≡ true → has ys b ≡ true → StandsBefore xs a b → StandsBefore ys a b

-- the same lecturer, whose rankings order the students on both alike
abbrev pub RankAlike : Lecturer → Lecturer → Type 0
RankAlike l k = (k.row ≡ l.row) × OrderAlike (unwrap_or l.ranking []) (unwrap_or k.ranking [])

-- the same student with the same first result, and with the same list unless the key is a `May` key
abbrev pub ListAlike : (Key → Type 0) → Student → Student → Type 0
ListAlike May x y =
    (y.row ≡ x.row) × ((May x.row.key → ⊥) → y.choice ≡ x.choice) × (y.earlier_placement ≡ x.earlier_placement)

-- worlds of one round with the same rolls and first result; the lists of `May` students may differ
pub record DifferInLists (w v : World) (May : Key → Type 0) : Type 0 where
  pub round : v.round ≡ w.round
  pub lecturers : AllZip RankAlike w.lecturers v.lecturers
  pub projects : v.projects ≡ w.projects
  pub students : AllZip (ListAlike May) w.students v.students

-- the list of the student with this key may differ
abbrev pub DifferInOneList : World → World → Key → Type 0
DifferInOneList w v key = DifferInLists w v (λ k. k ≡ key)

-- on this list, `mine` is no later than `other`; a project off the list is worse than none
abbrev pub IsNoWorse : List Key → Option Key → Option Key → Type 0
IsNoWorse list mine other =
    (p : Key) → other ≡ Some p → has list p ≡ true → (q : Key) × (mine ≡ Some q) × (has list q ≡ true)
    × (number_in list q ≤ number_in list p)

-- by the list in w, the student-optimal result of w is no worse for the student than what v shows
abbrev pub HonestIsBest : Type 0
HonestIsBest =
    (w v : World) (code : Key) (a b : StudentSees) → HasBest w → Good v → view w code ≡ sees.Student a
    → view v code ≡ sees.Student b
    → DifferInOneList w v a.me.key → IsNoWorse a.choices a.result b.result

-- the project is on the student's list, before the one that this round's result gives, if any
abbrev pub Prefers : Student → Key → Type 0
Prefers s p = (has s.choice p ≡ true) × ((q : Key) → s.placed ≡ Some q → number_in s.choice p < number_in s.choice q)

-- in the second round, the catalogue has nothing that a student preferred to the first's result
abbrev pub LeftFindsNone : Type 0
LeftFindsNone =
    (w : World) → Good w → is_second w.round ≡ true
    → AllByRecursion (λ s. (p : Key) → Prefers s p → in_catalogue (catalogue w) p ≡ false) (first w).students

-- if u's first round differs from w in the caller's list, u shows nothing better by the list in w
abbrev pub HonestOverBoth : Type 0
HonestOverBoth =
    (w u : World) (code : Key) (a b : StudentSees) → HasBest w → Good u → is_second u.round ≡ true
    → DifferInOneList w (first u) a.me.key
    → view w code ≡ sees.Student a → view u code ≡ sees.Student b → IsNoWorse a.choices a.result b.result

-- the same of each second round that a run reaches from a published first round v
abbrev pub HonestOverRuns : Type 0
HonestOverRuns =
    (w v : World) (code : Key) (a : StudentSees) (asked : List Request) (told : List Answer) (after : List World)
    → HasBest w → Good v → v.round ≡ First → v.phase ≡ Published → DifferInOneList w v a.me.key
    → view w code ≡ sees.Student a → Run v asked told after
    → AllByRecursion (λ u. (b : StudentSees) → is_second u.round ≡ true → view u code ≡ sees.Student b
    → IsNoWorse a.choices a.result b.result) after

-- a student of the group to whom v shows nothing better than w, by the list in w
pub record OneGainsNothing (w v : World) (group : List Key) : Type 0 where
  pub code : Key
  pub one : StudentSees
  pub other : StudentSees
  pub sees_one : view w code ≡ sees.Student one
  pub sees_other : view v code ≡ sees.Student other
  pub of_group : has group one.me.key ≡ true
  pub no_worse : IsNoWorse one.choices one.result other.result

-- if a group with a member in the round submits any lists in v, some member gains nothing
abbrev pub NoGroupGains : Type 0
NoGroupGains =
    (w v : World) (group : List Key) (key : Key) → HasBest w → Good v → DifferInLists w v (λ k. has group k ≡ true)
    → has group key ≡ true → has (student_keys (in_play w)) key ≡ true → OneGainsNothing w v group

-- if u's first round differs from w in the lists of a group with a member in it, some member gains
-- nothing over both rounds of u
abbrev pub NoGroupGainsOverBoth : Type 0
NoGroupGainsOverBoth =
    (w u : World) (group : List Key) (key : Key) → HasBest w → Good u → is_second u.round ≡ true
    → DifferInLists w (first u) (λ k. has group k ≡ true)
    → has group key ≡ true → has (student_keys w) key ≡ true → OneGainsNothing w u group

-- the same of each second round that a run reaches from a published first round v
abbrev pub NoGroupGainsOverRuns : Type 0
NoGroupGainsOverRuns =
    (w v : World) (group : List Key) (key : Key) (asked : List Request) (told : List Answer) (after : List World)
    → HasBest w → Good v → v.round ≡ First → v.phase ≡ Published → DifferInLists w v (λ k. has group k ≡ true)
    → has group key ≡ true → has (student_keys w) key ≡ true → Run v asked told after
    → AllByRecursion (λ u. is_second u.round ≡ true → OneGainsNothing w u group) after

-- where a student keeps the own list in v, and others are cut, v's best result shows this student
-- nothing worse than w, by the own list
abbrev pub ShorterNeverHarm : Type 0
ShorterNeverHarm =
    (w v : World) (code : Key) (a b : StudentSees) → Good w → HasBest v → view v code ≡ sees.Student a
    → view w code ≡ sees.Student b → DifferInLists w v (λ k. k ≢ a.me.key)
    → AllZip (λ s t. IsCut s.choice t.choice) w.students v.students → IsNoWorse a.choices a.result b.result

-- p is full, and its lecturer l ranks each student there above the student with the key
pub record IsTaken (w : World) (l : Lecturer) (p : ProjectRow) (key : Key) : Type 0 where
  pub full : p.capacity ≤ placed_to w.students p.key
  pub above : AllByRecursion (λ t. t.placed ≡ Some p.key
      → StandsBefore (unwrap_or l.ranking []) t.row.key key) w.students

-- l is full, and ranks each own student above the student with the key
pub record IsBusy (w : World) (l : Lecturer) (key : Key) : Type 0 where
  pub full : l.row.capacity ≤ placed_with w.projects w.students l.row.key
  pub above : AllByRecursion (λ t.
      list_any (λ p. equals p.lecturer l.row.key && is_at p.key t.placed) w.projects ≡ true
      → StandsBefore (unwrap_or l.ranking []) t.row.key key) w.students

-- in a published round, each project that a student prefers is taken, or its lecturer is busy
abbrev pub WhyNot : Type 0
WhyNot =
    (w : World) → Good w → w.round ≡ First → is_published w.phase ≡ true
    → AllByRecursion (λ s. AllByRecursion (λ p. Prefers s p.key
    → AllByRecursion (λ l. l.row.key ≡ p.lecturer → IsTaken w l p s.row.key ⊎ IsBusy w l s.row.key) w.lecturers)
    w.projects) w.students
