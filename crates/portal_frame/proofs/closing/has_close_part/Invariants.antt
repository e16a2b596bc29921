use Rattle.portal_frame.proofs.Base.{◌≡◌, length, later_close}
use Rattle.portal_frame.proofs.closing.has_close_part.Given as goal

abbrev pub decreases-loop-rest : goal.decreases-loop-rest
decreases-loop-rest l = length l.rest

abbrev pub invariant-loop-rest : goal.invariant-loop-rest
invariant-loop-rest l = later_close l.rest ≡ later_close l.value
