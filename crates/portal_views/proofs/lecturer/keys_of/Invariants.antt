use Rattle.portal_views.proofs.Base.{◌≡◌, map, take, first_cell}
use Rattle.portal_views.proofs.lecturer.keys_of.Given as goal

abbrev pub invariant-loop-row : goal.invariant-loop-row
invariant-loop-row l = l.keys.items ≡ map first_cell (take l.row-index l.rows)
