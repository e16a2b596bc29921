use Rattle.portal_tables.proofs.Base.{◌≡◌, take, flat_map, bound}
use Rattle.portal_tables.proofs.sql.insert.write_rows.Given as goal

abbrev pub invariant-loop-row : goal.invariant-loop-row
invariant-loop-row g l = bound l.values.items ≡ flat_map g.T.Target.values (take l.row-index l.rows)
