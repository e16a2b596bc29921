-- A reader that is left alone gives nothing.
use Rattle.std.proofs.Common.{ℕ, List, Option, Some, None, refl, arith}
use Rattle.portal_desk.specs.Kept.{TakesAtMost}

pub same_left : (n : ℕ) (left : Option (List ℕ)) → TakesAtMost n left left
same_left n (Some bytes) = (bytes, refl, omega arith)
same_left n None = tt
