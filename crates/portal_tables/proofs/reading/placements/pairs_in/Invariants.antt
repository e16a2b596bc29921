use Rattle.portal_tables.proofs.Base.{◌≡◌, Ok, take, filter_map, IsDatabase, state, pair_shown, TableFault, Reading}
use Rattle.portal_tables.proofs.Base.{IfOpen, IsStoreFault, Gives}
use Rattle.portal_tables.proofs.reading.placements.pairs_in.Given as goal

abbrev pub invariant-loop-row : goal.invariant-loop-row
invariant-loop-row g l =
    Reading l.round IfOpen IsDatabase {E = TableFault} IsStoreFault
    (Gives (λ db v. v.items ≡ filter_map (pair_shown l.round l.phase db.trees) (take l.row-index l.rows))) (Ok l.pairs)
    (state g.S.Store l.fn.conn) (state g.S.Store l.conn)
