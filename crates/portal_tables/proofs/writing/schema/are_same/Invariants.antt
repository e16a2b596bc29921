use Rattle.portal_tables.proofs.Base.{◌≡◌, take, length}
use Rattle.portal_tables.proofs.writing.schema.are_same.Given as goal

abbrev pub invariant-loop-i : goal.invariant-loop-i
invariant-loop-i g l = record { so_far : take l.i l.a ≡ take l.i l.b; lengths : length l.a ≡ length l.b }
