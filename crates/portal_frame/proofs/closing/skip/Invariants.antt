use Rattle.portal_frame.proofs.Base.{◌≡◌, length, skip_ows}
use Rattle.portal_frame.proofs.closing.skip.Given as goal

abbrev pub decreases-loop-rest : goal.decreases-loop-rest
decreases-loop-rest l = length l.rest

abbrev pub invariant-loop-rest : goal.invariant-loop-rest
invariant-loop-rest l = skip_ows l.rest ≡ skip_ows l.bytes
