-- For instances, by number, the laws that worlds have by key.
use Rattle.std.specs.Prelude.{◌≡◌, ◌≢◌, ℕ, ◌≤◌, List, length, Option, Some, None}
use Rattle.spa_model.specs.Spa.{Spa, choices_of, project_of, capacity_of, limit_of, at_project, at_lecturer}
use Rattle.spa_model.specs.Spa.{IsOn, IsAcceptable, IsAsGood, Wants, IsLawful, IsStable, IsBest}
use Rattle.spa_honest.specs.Honest.{DifferInLists, DifferInOneList, HasRoom, IsCut, IsNoWorse}

-- by the list in i, the best matching of i is no worse for s than any stable matching of j
abbrev pub HonestIsBest : Type 0
HonestIsBest =
    (i j : Spa) (s : ℕ) (m n : List (Option ℕ)) → IsLawful i → IsLawful j → DifferInOneList i j s
    → IsBest i m → IsStable j n
    → IsNoWorse i s (project_of m s) (project_of n s)

-- nobody would rather have a project with room than what a stable matching gives
abbrev pub LeftFindsNone : Type 0
LeftFindsNone =
    (i : Spa) (m : List (Option ℕ)) (s p : ℕ) → IsStable i m → Wants i m s p → HasRoom i m p → ⊥

-- if a stable matching of j leaves s out and p has room in it, i's best gives s p or a better one
abbrev pub WaitingNeverPays : Type 0
WaitingNeverPays =
    (i j : Spa) (s p : ℕ) (m n : List (Option ℕ)) → IsLawful i → IsLawful j → DifferInOneList i j s
    → IsBest i m → IsStable j n → project_of n s ≡ None
    → IsAcceptable i s p → HasRoom j n p → IsAsGood i s (project_of m s) (Some p)

-- whatever lists a group submits in j, some member gets nothing better, by the list in i, than in i
abbrev pub NoGroupGains : Type 0
NoGroupGains =
    (i j : Spa) (group : List ℕ) (m n : List (Option ℕ)) → IsLawful i → IsLawful j → 1 ≤ length group
    → DifferInLists i j (IsOn group) → IsBest i m → IsStable j n
    → (s : ℕ) × IsOn group s × IsNoWorse i s (project_of m s) (project_of n s)

-- x keeps the pairs of n, may place those whom n leaves anywhere, and keeps within the capacities
pub record AddsTo (i : Spa) (n x : List (Option ℕ)) : Type 0 where
  pub students : length x ≡ length n
  pub keeps : (s p : ℕ) → project_of n s ≡ Some p → project_of x s ≡ Some p
  pub projects : (p : ℕ) → at_project x p ≤ capacity_of i p
  pub lecturers : (l : ℕ) → at_lecturer i x l ≤ limit_of i l

-- the same over both rounds: x is a stable matching of j, with what a second round adds
abbrev pub NoGroupGainsOverBoth : Type 0
NoGroupGainsOverBoth =
    (i j : Spa) (group : List ℕ) (m n x : List (Option ℕ)) → IsLawful i → IsLawful j
    → DifferInLists i j (IsOn group) → 1 ≤ length group → IsBest i m → IsStable j n → AddsTo j n x
    → (s : ℕ) × IsOn group s × IsNoWorse i s (project_of m s) (project_of x s)

-- where t keeps the own list in j, and others are cut, j's best gives t nothing worse than any
-- stable matching of i
abbrev pub ShorterNeverHarm : Type 0
ShorterNeverHarm =
    (i j : Spa) (t : ℕ) (m n : List (Option ℕ)) → IsLawful i → DifferInLists i j (λ s. s ≢ t)
    → ((s : ℕ) → IsCut (choices_of i s) (choices_of j s)) → IsStable i m → IsBest j n
    → IsAsGood i t (project_of n t) (project_of m t)
