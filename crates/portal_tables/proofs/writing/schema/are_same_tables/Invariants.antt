use Rattle.portal_tables.proofs.Base.{◌≡◌, take, length, AllZip}
use Rattle.portal_tables.specs.inner.Comparing.{SameParts}
use Rattle.portal_tables.proofs.writing.schema.are_same_tables.Given as goal

abbrev pub invariant-loop-i : goal.invariant-loop-i
invariant-loop-i l = record { so_far : AllZip SameParts (take l.i l.a) (take l.i l.b); lengths : length l.a ≡ length l.b }
