use Rattle.portal_store.proofs.Base.{◌≡◌, take, filter_map, pair_left}
use Rattle.portal_store.proofs.changing.placing.pairs_left.Given as goal

abbrev pub invariant-loop-row : goal.invariant-loop-row
invariant-loop-row l = l.found.items ≡ filter_map (pair_left l.pairs) (take l.row-index l.rows)
