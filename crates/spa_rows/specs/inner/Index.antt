-- A map from keys to the places of lines.
use Rattle.std.specs.Prelude.{◌≡◌, ◌≢◌, ℕ, ◌<◌, Bool, List, Option, Some, None, slice_index_or}
use Rattle.std.specs.List.{AllPairs}
use Rattle.std.specs.Borrow.{Bor}
use Rattle.std.specs.HashMap as hash
use Rattle.std.specs.HashMap.{HashMap}
use Rattle.std.specs.Str.{bytes_eq}
use Rattle.spa_rows.specs.Lines.{Text}
use Rattle.spa_rows.specs.Faults.{IsEarlierKey}

abbrev pub text_eq : Bor Text → Bor Text → Bool
text_eq x y = bytes_eq x.now y.now

-- the text is the key of one of the first n lines, at the place told, or of none of them
abbrev pub HasPlace : {X : Type 0} → List X → (X → Text) → ℕ → Text → Option ℕ → Type 0
HasPlace lines key n text None = IsEarlierKey lines key n text → ⊥
HasPlace {X} lines key n text (Some k) = (k < n) × ((d : X) → key (slice_index_or lines k d) ≡ text)

-- each text has its place among the first n lines
abbrev pub IsIndexOf : {X S : Type 0} → List X → (X → Text) → ℕ → HashMap (Bor Text) ℕ S → Type 0
IsIndexOf lines key n places = (q : Bor Text) → HasPlace lines key n q.now (hash.get text_eq places q)

-- no number stands at two places
abbrev pub Differ : List ℕ → Type 0
Differ numbers = AllPairs (λ a b. a ≢ b) numbers
