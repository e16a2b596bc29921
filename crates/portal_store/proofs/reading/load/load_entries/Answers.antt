use Rattle.portal_store.proofs.Base.{reads_more, state, world_of}
use Rattle.portal_store.proofs.reading.load.load_entries.Goals as goal

pub returns-in-Ok : goal.returns-in-Ok
unfolding world_of
returns-in-Ok g c =
    reads_more tt c.in_ok-rows.ensures (λ own whole loads sound. c.in-Ok.ensures.entries
    (world_of (state g.S.Store c.args.conn.now).now.trees) loads.rows_are sound)
