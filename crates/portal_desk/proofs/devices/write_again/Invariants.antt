use Rattle.portal_desk.proofs.Base.{Keeps}
use Rattle.portal_desk.proofs.devices.write_again.Given as goal

-- no byte was written
abbrev pub invariant-loop : goal.invariant-loop
invariant-loop g l = Keeps (g.W.Write.contents l.initial.writer) (g.W.Write.contents l.writer)
