-- The statements of the laws that instances alone have. `NobodyGains`, `NoRankingPays` and
-- `MorePlacesNeverHarm` are refuted; the others are proved.
use Rattle.std.specs.Prelude.{◌≡◌, ◌≢◌, ◌↔◌, ◌⊎◌, ℕ, zero, suc, ◌+◌, ◌<◌, ◌≤◌, ◌==◌, if◌then◌else◌, List, length, take}
use Rattle.std.specs.Prelude.{set, count_by, Option, Some, None}
use Rattle.spa_model.specs.Spa.{Spa, choices_of, ranking_of, project_of, lecturer_of, capacity_of, limit_of, at_project}
use Rattle.spa_model.specs.Spa.{at_lecturer, is_lecturer, IsOn, IsBefore, IsAcceptable, IsAsGood, IsWith, Wants, Blocks}
use Rattle.spa_model.specs.Spa.{IsMatching, IsLawful, IsStable, IsBest}
use Rattle.spa_model.specs.declared.letter.Letter.{Letter}

-- p and its lecturer are both under capacity
abbrev pub HasRoom : Spa → List (Option ℕ) → ℕ → Type 0
HasRoom i m p = (at_project m p < capacity_of i p) × (at_lecturer i m (lecturer_of i p) < limit_of i (lecturer_of i p))

-- the same students have a project in both, and each lecturer has as many students in both; so has
-- each project of a lecturer with room; with room there too, it has the same students in both
pub record AssignTheSame (i : Spa) (m n : List (Option ℕ)) : Type 0 where
  pub students : (s : ℕ) → project_of m s ≡ None ↔ project_of n s ≡ None
  pub lecturers : (l : ℕ) → at_lecturer i m l ≡ at_lecturer i n l
  pub projects : (p : ℕ)
      → at_lecturer i m (lecturer_of i p) < limit_of i (lecturer_of i p) → at_project m p ≡ at_project n p
  pub room : (s p : ℕ) → HasRoom i m p → project_of m s ≡ Some p ↔ project_of n s ≡ Some p

-- all stable matchings of a lawful instance assign the same in this sense
abbrev pub SameAssigned : Type 0
SameAssigned = (i : Spa) (m n : List (Option ℕ)) → IsLawful i → IsStable i m → IsStable i n → AssignTheSame i m n

-- each lawful instance has a student-optimal stable matching
abbrev pub BestThereIs : Type 0
BestThereIs = (i : Spa) → IsLawful i → (m : List (Option ℕ)) × IsBest i m

-- two students who are on both lists have the same order on both
abbrev pub OrderAlike : List ℕ → List ℕ → Type 0
OrderAlike xs ys = (a b : ℕ) → IsOn ys a → IsOn ys b → IsBefore xs a b → IsBefore ys a b

-- lists of `May` students may differ; each lecturer orders the students on both rankings alike
pub record DifferInLists (i j : Spa) (May : ℕ → Type 0) : Type 0 where
  pub students : length j.choices ≡ length i.choices
  pub lecturers : j.lecturers ≡ i.lecturers
  pub capacities : j.capacities ≡ i.capacities
  pub limits : j.limits ≡ i.limits
  pub others : (t : ℕ) → (May t → ⊥) → choices_of j t ≡ choices_of i t
  pub orders : (l : ℕ) → OrderAlike (ranking_of i l) (ranking_of j l)

-- the list of s may differ
abbrev pub DifferInOneList : Spa → Spa → ℕ → Type 0
DifferInOneList i j s = DifferInLists i j (λ t. t ≡ s)

-- by the list of s in i, `mine` is as good as `other`; a project off that list is worse than none
abbrev pub IsNoWorse : Spa → ℕ → Option ℕ → Option ℕ → Type 0
IsNoWorse i s mine other = (p : ℕ) → other ≡ Some p → IsAcceptable i s p → IsAsGood i s mine (Some p)

-- a statement that does not hold: whatever lists a group submits in j, no member gains
abbrev pub NobodyGains : Type 0
NobodyGains =
    (i j : Spa) (group : List ℕ) (m n : List (Option ℕ)) → IsLawful i → IsLawful j → DifferInLists i j (IsOn group)
    → IsBest i m → IsBest j n
    → (s : ℕ) → IsOn group s → IsNoWorse i s (project_of m s) (project_of n s)

-- by the list in i, no list of the same projects, or of some of them, gives s a better one
abbrev pub OrderHonestly : Type 0
OrderHonestly =
    (i j : Spa) (s : ℕ) (m n : List (Option ℕ)) → IsLawful i → IsLawful j → DifferInOneList i j s
    → ((p : ℕ) → IsAcceptable j s p → IsAcceptable i s p)
    → IsBest i m → IsStable j n → IsAsGood i s (project_of m s) (project_of n s)

-- p is full, and its lecturer ranks each student there above s
pub record IsTaken (i : Spa) (m : List (Option ℕ)) (p s : ℕ) : Type 0 where
  pub full : at_project m p ≡ capacity_of i p
  pub above : (t : ℕ) → project_of m t ≡ Some p → IsBefore (ranking_of i (lecturer_of i p)) t s

-- l is full, and ranks each own student above s
pub record IsBusy (i : Spa) (m : List (Option ℕ)) (l s : ℕ) : Type 0 where
  pub full : at_lecturer i m l ≡ limit_of i l
  pub above : (t : ℕ) → IsWith i m l t → IsBefore (ranking_of i l) t s

-- a matching is stable exactly if each project that a student would rather have is taken, or its
-- lecturer is busy
abbrev pub WhyNot : Type 0
WhyNot =
    (i : Spa) (m : List (Option ℕ)) → IsLawful i → IsMatching i m
    → IsStable i m ↔ ((s p : ℕ) → Wants i m s p → IsTaken i m p s ⊎ IsBusy i m (lecturer_of i p) s)

-- of the first k students whom lecturer l ranks, the number who are with l
abbrev pub first_with : Spa → List (Option ℕ) → ℕ → ℕ → ℕ
first_with i m l k = count_by (λ s. is_lecturer i l (project_of m s)) (take k (ranking_of i l))

-- for lecturer l, m is as good as n: of the first k on the ranking, for each k, l has no fewer in m
abbrev pub IsAsGoodFor : Spa → ℕ → List (Option ℕ) → List (Option ℕ) → Type 0
IsAsGoodFor i l m n = (k : ℕ) → first_with i n l k ≤ first_with i m l k

-- for each lecturer, every stable matching is as good as the students' best
abbrev pub LecturersWorst : Type 0
LecturersWorst =
    (i : Spa) (m n : List (Option ℕ)) (l : ℕ) → IsLawful i → IsBest i m → IsStable i n → IsAsGoodFor i l n m

-- the same instance with other rankings
abbrev pub with_rankings : Spa → List (List ℕ) → Spa
with_rankings i rankings = record i { rankings = rankings }

-- a statement that does not hold: whatever ranking lecturer l submits, by the one in i it gives l
-- nothing better
abbrev pub NoRankingPays : Type 0
NoRankingPays =
    (i : Spa) (rankings : List (List ℕ)) (l : ℕ) (m n : List (Option ℕ)) → IsLawful i
    → IsLawful (with_rankings i rankings)
    → ((k : ℕ) → k ≢ l → ranking_of (with_rankings i rankings) k ≡ ranking_of i k)
    → IsBest i m → IsBest (with_rankings i rankings) n → IsAsGoodFor i l n m → IsAsGoodFor i l m n

-- a matching that gives some student better than the best one is blocked by one to whom it does not
abbrev pub BlockedOutside : Type 0
BlockedOutside =
    (i : Spa) (m x : List (Option ℕ)) (s : ℕ) → IsLawful i → IsBest i m → IsMatching i x
    → (IsAsGood i s (project_of m s) (project_of x s) → ⊥)
    → (t : ℕ) × (p : ℕ) × (k : Letter) × Blocks i x t p k × IsAsGood i t (project_of m t) (project_of x t)

-- if s, who has q, drops out and all others keep theirs, others block at projects of q's lecturer alone
abbrev pub DropoutStaysLocal : Type 0
DropoutStaysLocal =
    (i : Spa) (m : List (Option ℕ)) (s q t p : ℕ) (k : Letter) → IsStable i m → project_of m s ≡ Some q
    → t ≢ s → Blocks i (set m s None) t p k → lecturer_of i p ≡ lecturer_of i q

-- ys is xs without the entries after some place
abbrev pub IsCut : {A : Type 0} → List A → List A → Type 0
IsCut xs ys = (k : ℕ) × (ys ≡ take k xs)

-- the same instance with other capacities and limits
abbrev pub with_room : Spa → List ℕ → List ℕ → Spa
with_room i capacities limits = record i { capacities = capacities; limits = limits }

-- the places of a lecturer's projects among the first n, and of all together
abbrev pub places_among : Spa → ℕ → ℕ → ℕ
places_among i l zero = 0
places_among i l (suc n) = places_among i l n + (if lecturer_of i n == l then capacity_of i n else 0)

abbrev pub places_with : Spa → ℕ → ℕ
places_with i l = places_among i l (length i.lecturers)

-- in j no project has fewer places; each lecturer's limit grows by as many places as the own
-- projects together, or is as high as all their places, so that it binds nobody
pub record GivesRoom (i j : Spa) : Type 0 where
  pub projects : (p : ℕ) → capacity_of i p ≤ capacity_of j p
  pub lecturers : (l : ℕ)
      → (limit_of i l + places_with j l ≤ limit_of j l + places_with i l) ⊎ (places_with j l ≤ limit_of j l)

-- then nobody gets worse in j's best than in a stable matching of i
abbrev pub MoreRoomNeverHarms : Type 0
MoreRoomNeverHarms =
    (i : Spa) (capacities limits : List ℕ) (m n : List (Option ℕ)) → IsLawful i
    → IsLawful (with_room i capacities limits) → GivesRoom i (with_room i capacities limits)
    → IsStable i m → IsBest (with_room i capacities limits) n → (s : ℕ) → IsAsGood i s (project_of n s) (project_of m s)

-- a statement that does not hold: more places, with the same limits, harm nobody
abbrev pub MorePlacesNeverHarm : Type 0
MorePlacesNeverHarm =
    (i : Spa) (capacities : List ℕ) (m n : List (Option ℕ)) → IsLawful i → IsLawful (with_room i capacities i.limits)
    → ((p : ℕ) → capacity_of i p ≤ capacity_of (with_room i capacities i.limits) p)
    → IsBest i m → IsBest (with_room i capacities i.limits) n → (s : ℕ) → IsAsGood i s (project_of n s) (project_of m s)
