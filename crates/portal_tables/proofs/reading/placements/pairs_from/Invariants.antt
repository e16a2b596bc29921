use Rattle.portal_tables.proofs.Base.{◌≡◌, first_pair, take, filter_map}
use Rattle.portal_tables.proofs.reading.placements.pairs_from.Given as goal

abbrev pub invariant-loop-row : goal.invariant-loop-row
invariant-loop-row l = l.pairs.items ≡ filter_map first_pair (take l.row-index l.rows)
