use Rattle.portal_frame.proofs.Base.{◌≡◌, length, is_blank}
use Rattle.portal_frame.proofs.is_all_blank.Given as goal

abbrev pub invariant-loop-rest : goal.invariant-loop-rest
invariant-loop-rest l = is_blank l.rest ≡ is_blank l.bytes

abbrev pub decreases-loop-rest : goal.decreases-loop-rest
decreases-loop-rest l = length l.rest
