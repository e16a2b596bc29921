use Rattle.portal_tables.proofs.Base.{◌≡◌, HasGiven, bound, ShowsAs}
use Rattle.portal_tables.proofs.Decoded.{IsUnderWay}
use Rattle.portal_tables.proofs.sql.run.query_each.Given as goal

abbrev pub invariant-rows : goal.invariant-rows
invariant-rows g l = record {
  same_reference : l.rows.conn.ghost_name ≡ l.initial.rows.conn.ghost_name;
  under_way : IsUnderWay g.S.Store l.sql l.fn.conn l.rows.conn.now
      (ShowsAs g.T.FromCells.shown (HasGiven g.S.Store l.sql (bound l.params) l.rows.conn.now) l.all.items);
}
