-- The students of a project or of a lecturer: how many, and how far down the list they reach.
use Rattle.std.specs.Prelude.{◌≡◌, ℕ, ◌+◌, ◌<◌, List, Option, Some, length, slice_index_or, ◌≤◌, nat_le, ◌⊎◌, filter}
use Rattle.std.specs.Prelude.{Contains, All, AllPairs}
use Rattle.spa_model.specs.Spa.{Spa, IsWith, place, ranking_of, lecturer_of, project_of, at_project, at_lecturer}
use Rattle.spa_model.specs.Spa.{Blocks}
use Rattle.spa_check.specs.declared.groups.Group.{Group}
use Rattle.spa_model.specs.declared.letter.Letter.{Letter}
use Rattle.spa_check.specs.declared.blocking.Block.{Block}
use Rattle.spa_check.specs.Listed.{IsEarlier}

-- the group counts n; it reaches down to the last place on the list of those who are in it, counted
-- from 1
pub record IsGroup (list : List ℕ) (IsIn : ℕ → Type 0) (n : ℕ) (g : Group) : Type 0 where
  pub count : g.count ≡ n
  pub none_deeper : (t : ℕ) → IsIn t → place list t < g.depth
  pub reached : 0 < g.depth → (t : ℕ) × IsIn t × (place list t + 1 ≡ g.depth)

-- the students at each project
pub record AreProjectGroups (i : Spa) (m : List (Option ℕ)) (groups : List Group) : Type 0 where
  pub size : length groups ≡ length i.lecturers
  pub each : (p : ℕ) (d : Group) → p < length groups
      → IsGroup (ranking_of i (lecturer_of i p)) (λ t. project_of m t ≡ Some p) (at_project m p) (slice_index_or groups p d)

-- the students of each lecturer
pub record AreLecturerGroups (i : Spa) (m : List (Option ℕ)) (groups : List Group) : Type 0 where
  pub size : length groups ≡ length i.rankings
  pub each : (l : ℕ) (d : Group) → l < length groups
      → IsGroup (ranking_of i l) (IsWith i m l) (at_lecturer i m l) (slice_index_or groups l d)

-- the student t and the project q come before s and p
abbrev pub IsPassed : ℕ → ℕ → ℕ → ℕ → Type 0
IsPassed s p t q = (t < s) ⊎ ((t ≡ s) × (q < p))

-- every pair before s and p that blocks, and no other, in order
pub record AreBlocksBefore (i : Spa) (m : List (Option ℕ)) (s p : ℕ) (blocks : List Block) : Type 0 where
  pub sound : All (λ b. Blocks i m b.student b.project b.letter) blocks
  pub complete : (t q : ℕ) (x : Letter) → IsPassed s p t q → Blocks i m t q x
      → Contains blocks (record { student = t; project = q; letter = x })
  pub sorted : AllPairs IsEarlier blocks
  pub passed : All (λ b. IsPassed s p b.student b.project) blocks

-- the numbers of a list that are not below from
abbrev pub not_below : ℕ → List ℕ → List ℕ
not_below from list = filter (λ p. nat_le from p) list

-- p is on the list, and nothing less
abbrev pub IsLeastIn : List ℕ → ℕ → Type 0
IsLeastIn list p = Contains list p × All (λ q. p ≤ q) list
