-- The worst student at a project, and at a lecturer.
use Rattle.std.specs.Prelude.{◌≡◌, ℕ, ◌≤◌, Option, Some, length, List}
use Rattle.spa_model.specs.Spa.{Spa, project_of, place, ranking_of, lecturer_of, IsAcceptable, IsWith}

-- each student has an acceptable project or none, however many are anywhere
pub record IsAssignment (i : Spa) (m : List (Option ℕ)) : Type 0 where
  pub students : length m ≡ length i.choices
  pub acceptable : (s p : ℕ) → project_of m s ≡ Some p → IsAcceptable i s p

-- w is at p, and nobody there stands after w
pub record IsWorstAt (i : Spa) (m : List (Option ℕ)) (p w : ℕ) : Type 0 where
  pub at : project_of m w ≡ Some p
  pub worst : (x : ℕ) → project_of m x ≡ Some p
      → place (ranking_of i (lecturer_of i p)) x ≤ place (ranking_of i (lecturer_of i p)) w

-- w is at a project of l, and none of l's students stands after w
pub record IsWorstWith (i : Spa) (m : List (Option ℕ)) (l w : ℕ) : Type 0 where
  pub with_l : IsWith i m l w
  pub worst : (x q : ℕ) → project_of m x ≡ Some q → lecturer_of i q ≡ l
      → place (ranking_of i l) x ≤ place (ranking_of i l) w
