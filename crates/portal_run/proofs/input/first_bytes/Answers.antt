use Rattle.portal_run.proofs.Base.{arith}
use Rattle.portal_run.proofs.Taken.{more_taken}
use Rattle.portal_run.proofs.input.first_bytes.Goals as goal

pub returns-in_err-add_read-clause-takes : goal.returns-in_err-add_read-clause-takes
returns-in_err-add_read-clause-takes g c =
    more_taken 64 _ _ _ _ c.loop-bytes.bytes.items c.loop-bytes.invariant.1 c.loop-bytes.invariant.0
    (omega (arith, c.loop-bytes.invariant.0, c.len-most.ensures)) c.in_err-add_read.ensures.takes
