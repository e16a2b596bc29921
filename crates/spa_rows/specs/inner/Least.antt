-- The least row that has a fault.
use Rattle.std.specs.Prelude.{◌≡◌, ℕ, ◌<◌, ◌≤◌, Bool, IsTrue, List, Option, Some, None, min, slice_index_or}
use Rattle.spa_rows.specs.Faults.{BadBelow}

-- the least number for which P holds, or none where there is none
abbrev pub IsLeastOf : (ℕ → Type 0) → Option ℕ → Type 0
IsLeastOf P None = (r : ℕ) → P r → ⊥
IsLeastOf P (Some r) = P r × ((q : ℕ) → P q → r ≤ q)

-- each of the first n lines is told good or bad, as Says allows, and o is the least row of the bad
pub record IsLeastTold {X : Type 0} (lines : List X) (row : X → ℕ) (Says : X → Bool → Type 0) (n : ℕ) (o : Option ℕ) : Type 0 where
  pub told : ℕ → Bool
  pub each : (j : ℕ) (x : X) → j < n → slice_index_or lines j x ≡ x → Says x (told j)
  pub least : IsLeastOf (BadBelow lines row (λ j _. IsTrue (told j)) n) o

-- the lesser of a row and the least one so far
abbrev pub least_row : Option ℕ → ℕ → ℕ
least_row None r = r
least_row (Some b) r = min b r

-- the lesser of two rows that may be there
abbrev pub lesser_row : Option ℕ → Option ℕ → Option ℕ
lesser_row a None = a
lesser_row a (Some r) = Some (least_row a r)
