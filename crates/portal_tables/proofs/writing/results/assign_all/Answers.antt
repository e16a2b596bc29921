use Rattle.portal_tables.proofs.Runs.{does_then, does_both, does_failed, goes_then}
use Rattle.portal_tables.proofs.Assigning.{assigns_next}
use Rattle.portal_tables.proofs.writing.results.assign_all.Goals as goal

pub loop-a-preserved : goal.loop-a-preserved
loop-a-preserved g c =
    does_then g.S.Store _ _ _ _ _ _ _ _ c.loop-a.invariant c.in_ok-set_assigned.ensures
    (λ was done. goes_then _ _ _ _ _ _ was done
    (assigns_next c.args.all.now c.loop-a.a-index c.a-item.result _ _ _ c.loop-a-test.true c.a-item.is))

pub returns-in_err-set_assigned : goal.returns-in_err-set_assigned
returns-in_err-set_assigned g c = does_failed g.S.Store c.from_residual.result c.from_residual.ensures.0
    (does_both g.S.Store c.loop-a.invariant c.set_assigned.ensures)
