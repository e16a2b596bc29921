use Rattle.portal_store.proofs.Base.{◌≡◌, map, take, assigned_of}
use Rattle.portal_store.proofs.changing.placing.assignments.Given as goal

abbrev pub invariant-loop-row : goal.invariant-loop-row
invariant-loop-row l = l.all.items ≡ map (assigned_of l.pairs) (take l.row-index l.rows)
