use Rattle.portal_run.proofs.Base.{◌≤◌, length, Consumes}
use Rattle.std.proofs.Common.{◌-◌}
use Rattle.portal_run.proofs.input.first_bytes.Given as goal

abbrev pub invariant-loop-bytes : goal.invariant-loop-bytes
invariant-loop-bytes g l = (length l.bytes.items ≤ 64)
    × Consumes (g.R.Read.remaining l.initial.reader) (g.R.Read.remaining l.reader) l.bytes.items

abbrev pub decreases-loop-bytes : goal.decreases-loop-bytes
decreases-loop-bytes g l = 64 - length l.bytes.items
