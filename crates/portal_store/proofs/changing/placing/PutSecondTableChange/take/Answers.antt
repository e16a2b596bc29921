use Rattle.portal_store.proofs.Base.{does_then}
use Rattle.portal_store.proofs.SecondPlacements.{left_made}
use Rattle.portal_store.proofs.changing.placing.PutSecondTableChange.take.Goals as goal

pub returns : goal.returns
returns g c = does_then g.S.Store _ _ _ _ _ _ _ _ c.in_ok-put_placements.ensures c.set_phase.ensures (left_made c.args.self.left.now _ _ _)
