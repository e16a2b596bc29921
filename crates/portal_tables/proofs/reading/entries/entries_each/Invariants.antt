use Rattle.portal_tables.proofs.Base.{Ok, map, take, IsDatabase, state, round_of, with_list, TableFault, Reading}
use Rattle.portal_tables.proofs.Base.{IfOpen, IsStoreFault, Gives, AreEntriesOf}
use Rattle.portal_tables.proofs.reading.entries.entries_each.Given as goal

abbrev pub invariant-loop-owner : goal.invariant-loop-owner
invariant-loop-owner g l =
    Reading (round_of l.lists) IfOpen IsDatabase {E = TableFault} IsStoreFault
    (Gives (λ db v. AreEntriesOf l.lists db.trees (take l.owner-index l.owners) (map with_list v.items))) (Ok l.entries)
    (state g.S.Store l.fn.conn) (state g.S.Store l.conn)
