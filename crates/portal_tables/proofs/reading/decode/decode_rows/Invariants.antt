use Rattle.portal_tables.proofs.Base.{◌≡◌, map, take}
use Rattle.portal_tables.proofs.reading.decode.decode_rows.Given as goal

abbrev pub invariant-loop-row : goal.invariant-loop-row
invariant-loop-row g l = l.all.items ≡ map g.T.FromCells.shown (take l.row-index l.rows)
