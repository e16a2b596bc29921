use Rattle.portal_desk.proofs.Base.{◌≡◌, length, Keeps}
use Rattle.portal_desk.proofs.devices.read_again.Given as goal

-- no byte was taken
abbrev pub invariant-loop : goal.invariant-loop
invariant-loop g l = (length l.buf ≡ length l.initial.buf) × Keeps (g.R.Read.remaining l.initial.reader) (g.R.Read.remaining l.reader)
