-- The list of all blocking pairs, and who is better off in another matching.
use Rattle.std.specs.Prelude.{◌≡◌, ℕ, ◌<◌, ◌⊎◌, List, Option, Contains, All, AllPairs, Some}
use Rattle.spa_model.specs.Spa.{Spa, Blocks, Improves, project_of}
use Rattle.spa_model.specs.declared.letter.Letter.{Letter}
use Rattle.spa_check.specs.declared.blocking.Block.{Block}

-- the order of the list: by student, then by project
abbrev pub IsEarlier : Block → Block → Type 0
IsEarlier a b = (a.student < b.student) ⊎ ((a.student ≡ b.student) × (a.project < b.project))

-- exactly the blocking pairs, each with its letter, in order
pub record AreAllBlocks (i : Spa) (m : List (Option ℕ)) (blocks : List Block) : Type 0 where
  pub sound : All (λ b. Blocks i m b.student b.project b.letter) blocks
  pub complete : (s p : ℕ) (x : Letter) → Blocks i m s p x
      → Contains blocks (record { student = s; project = p; letter = x })
  pub sorted : AllPairs IsEarlier blocks

-- s has a project in `other`, and in m a less preferred one or none
abbrev pub IsBetterOff : Spa → List (Option ℕ) → List (Option ℕ) → ℕ → Type 0
IsBetterOff i m other s = (p : ℕ) × (project_of other s ≡ Some p) × Improves i s p (project_of m s)

-- s is the first student who is better off
pub record IsFirstBetterOff (i : Spa) (m other : List (Option ℕ)) (s : ℕ) : Type 0 where
  pub better : IsBetterOff i m other s
  pub first : (t : ℕ) → t < s → IsBetterOff i m other t → ⊥
