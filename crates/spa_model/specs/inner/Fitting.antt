-- When the projects of students are acceptable to them.
use Rattle.std.specs.Prelude.{◌≡◌, ℕ, List, Option, Some, ◌<◌, Bool, false, None, length, count_by, slice_index_or}
use Rattle.spa_model.specs.Spa.{Spa, project_of, IsAcceptable}

-- each student's project is on the student's list
abbrev pub AreAcceptable : Spa → List (Option ℕ) → Type 0
AreAcceptable i m = (s p : ℕ) → project_of m s ≡ Some p → IsAcceptable i s p

-- of n students, those on the list have the project at the same place of the other list, and nobody
-- else has one
pub record AreAssigned (n : ℕ) (students projects : List ℕ) (m : List (Option ℕ)) : Type 0 where
  pub count : length m ≡ n
  pub each : (j : ℕ) → j < length students
      → project_of m (slice_index_or students j 0) ≡ Some (slice_index_or projects j 0)
  pub no_other : (s p : ℕ) → project_of m s ≡ Some p
      → (j : ℕ) × (j < length students) × (slice_index_or students j 0 ≡ s) × (slice_index_or projects j 0 ≡ p)
  pub counted : (test : Option ℕ → Bool) → test None ≡ false → count_by test m ≡ count_by (λ p. test (Some p)) projects
