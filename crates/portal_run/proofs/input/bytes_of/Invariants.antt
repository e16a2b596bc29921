use Rattle.portal_run.proofs.Base.{◌≤◌, length, Consumes}
use Rattle.portal_run.proofs.input.bytes_of.Given as goal

abbrev pub invariant-loop : goal.invariant-loop
invariant-loop g l = (length l.bytes.items ≤ 4194305)
    × Consumes (g.R.Read.remaining l.initial.reader) (g.R.Read.remaining l.reader) l.bytes.items
