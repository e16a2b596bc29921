-- What reads take from an input, and writes give to an output, a part at a time.
use Rattle.std.specs.Prelude.{◌≡◌, ◌==◌, ◌<◌, ◌≤◌, ◌⊎◌, ◌++◌, ℕ, Option, true, is_some, length, position, take}
use Rattle.std.specs.Io.KnownBytes.{Appends, Consumes, IsAtEnd}
use Rattle.portal_answer.specs.Answer.{Text}

-- n bytes were taken, and stand behind those that were there; none only at the end, or where none
-- was asked for
pub record TakesMore (most n : ℕ) (old new : Option Text) (before after : Text) : Type 0 where
  pub taken : Text
  pub count : length taken ≡ n
  pub fits : n ≤ most
  pub consumed : Consumes old new taken
  pub added : after ≡ before ++ taken
  pub end : n ≡ 0 → 0 < most → IsAtEnd new

-- a beginning of the text was written
abbrev pub AppendsFront : Option Text → Option Text → Text → Type 0
AppendsFront old new text = (n : ℕ) × Appends old new (take n text)

-- the bytes have a line feed, or are as many as are read to find one
abbrev pub IsEnough : Text → Type 0
IsEnough bytes = (is_some (position (λ b. b == 10) bytes) ≡ true) ⊎ (64 ≤ length bytes)

-- these bytes of an input were taken, enough of them or all
abbrev pub TakesFront : Option Text → Option Text → Text → Type 0
TakesFront old new bytes = Consumes old new bytes × (IsEnough bytes ⊎ IsAtEnd new)
