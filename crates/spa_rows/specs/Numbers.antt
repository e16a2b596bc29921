-- The numbers of keys: the places, from 0, of the lines that have them.
use Rattle.std.specs.Prelude.{◌≡◌, ℕ, ◌<◌, ◌≤◌, List, Vec, length, slice_index_or}
use Rattle.std.specs.Global.{Global}
use Rattle.std.specs.List.{AllZip}
use Rattle.spa_rows.specs.Lines.{Text}
use Rattle.spa_rows.specs.Faults.{IsKeyOf}

-- the number of a text: that of a line with this key, or the number of lines if there is none
pub record HasNumber {X : Type 0} (lines : List X) (key : X → Text) (text : Text) (n : ℕ) : Type 0 where
  pub bound : n ≤ length lines
  pub known : n < length lines → (d : X) → key (slice_index_or lines n d) ≡ text
  pub unknown : length lines ≤ n → IsKeyOf lines key text → ⊥

-- the numbers of the texts on a list, and on the list of each line
abbrev pub HaveNumbers : {X : Type 0} → List X → (X → Text) → List Text → List ℕ → Type 0
HaveNumbers lines key texts numbers = AllZip (HasNumber lines key) texts numbers

abbrev pub AreListNumbers : {X L : Type 0} → List X → (X → Text) → (L → List Text) → List L → List (Vec ℕ Global)
    → Type 0
AreListNumbers lines key list owners numbers = AllZip (λ x own. HaveNumbers lines key (list x) own.items) owners numbers
