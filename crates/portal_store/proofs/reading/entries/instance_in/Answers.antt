use Rattle.portal_tables.proofs.InTurn.{not_stores}
use Rattle.portal_store.proofs.Base.{IfOk-weaker, reads_more, state, world_of}
use Rattle.portal_store.proofs.reading.entries.instance_in.Goals as goal

pub returns : goal.returns
returns g c =
    let w = world_of (state g.S.Store c.args.conn.now).now.trees in
    reads_more (not_stores c.instance_of.result c.instance_of.ensures.store) c.in_ok-entries.ensures
    (λ own sound told. IfOk-weaker c.instance_of.result _ _
    (λ i meant fine. meant w (told fine) fine) c.instance_of.ensures.meant)
