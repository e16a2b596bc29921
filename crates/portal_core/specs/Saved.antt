-- Which list or ranking of a caller counts: the last one that was accepted, as requests and replies
-- tell.
use Rattle.std.specs.Prelude.{◌≡◌, ◌⊎◌, ◌==◌, ◌||◌, ◌&&◌, not, Bool, true, false, if◌then◌else◌, List, [], ◌∷◌, map}
use Rattle.std.specs.Prelude.{Option, Some, None, unwrap_or}
use Rattle.std.specs.List.{AllByRecursion}
use Rattle.portal_rules.specs.Words.{Key, equals, has}
use Rattle.portal_rules.specs.World.{World, Student, Lecturer, student_key, applicants_of, is_second}
use Rattle.portal_rules.specs.Good.{Good, codes_of}
use Rattle.portal_rules.specs.Calls.{AbstractCall}
use Rattle.portal_rules.specs.Answer.{Answer}
use Rattle.portal_rules.specs.Run.{Wish, Calls, Request, Run, end_of}
use Rattle.portal_rules.specs.declared.phase.Round.TheVariants.{Second}

-- the list or ranking that a request submits; `last` if it submits none
abbrev pub submission : Wish → Option (List Key) → Option (List Key)
submission (Calls (AbstractCall.SetChoices list)) last = Some list
submission (Calls (AbstractCall.SetRanking list)) last = Some list
submission _ last = last

-- a move that names the second round
abbrev pub names_second : Wish → Bool
names_second (Calls (AbstractCall.Move phase (Some Second))) = true
names_second _ = false

-- the reply accepts the request, which opens the second round unless it is open
abbrev pub opens_now : Bool → Request → Answer → Bool
opens_now second r a = not second && ((a.status == 200) && names_second r.wish)

-- what the caller c submitted last in the current round, after one request more
abbrev pub submitted_then : Key → Bool → Option (List Key) → Request → Answer → Option (List Key)
submitted_then c second last r a =
    if opens_now second r a then None
    else if equals r.code c && (a.status == 200) then submission r.wish last else last

-- the same after all these requests
abbrev pub submitted : Key → Bool → Option (List Key) → List Request → List Answer → Option (List Key)
submitted c second last (r ∷ rs) (a ∷ told) =
    submitted c (second || opens_now second r a) (submitted_then c second last r a) rs told
submitted c second last _ _ = last

-- the student's list is what was submitted, or empty
abbrev pub IsLast : Student → Option (List Key) → Type 0
IsLast s last = s.choice ≡ unwrap_or last []

-- the lecturer's ranking is what was submitted; else it is missing, or filled in by key order
abbrev pub IsLastOrFilled : World → Lecturer → Option (List Key) → Type 0
IsLastOrFilled w l (Some list) = l.ranking ≡ Some list
IsLastOrFilled w l None =
    (l.ranking ≡ None) ⊎ (l.ranking ≡ Some (map student_key (applicants_of w l.row.key)))

-- the lists and rankings of a world are those that were submitted last by these codes, and other
-- codes submitted none
pub record AreLast (w : World) (last : Key → Option (List Key)) : Type 0 where
  pub students : AllByRecursion (λ s. IsLast s (last s.row.code)) w.students
  pub lecturers : AllByRecursion (λ l. IsLastOrFilled w l (last l.row.code)) w.lecturers
  pub others : (c : Key) → has (codes_of w) c ≡ false → last c ≡ None

-- what holds before a run holds after it, of what was submitted in it
abbrev pub SavedCounts : Type 0
SavedCounts =
    (w : World) (asked : List Request) (told : List Answer) (after : List World) (last : Key → Option (List Key))
    → Good w → Run w asked told after → AreLast w last
    → AreLast (end_of w after) (λ c. submitted c (is_second w.round) (last c) asked told)

-- from a portal without students and lecturers, of nothing but the run
abbrev pub SavedSinceNew : Type 0
SavedSinceNew =
    (w : World) (asked : List Request) (told : List Answer) (after : List World) → Good w → w.students ≡ []
    → w.lecturers ≡ [] → Run w asked told after
    → AreLast (end_of w after) (λ c. submitted c (is_second w.round) None asked told)
