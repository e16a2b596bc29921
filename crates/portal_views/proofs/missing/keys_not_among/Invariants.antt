use Rattle.portal_views.proofs.Base.{◌≡◌, ◌&&◌, is_none, map, take, filter, not, has, first_cell, placement_before}
use Rattle.portal_views.proofs.missing.keys_not_among.Given as goal

abbrev pub invariant-loop-row : goal.invariant-loop-row
invariant-loop-row l = l.keys.items ≡ map first_cell
    (filter (λ c. is_none (placement_before l.round c) && not (has (map first_cell l.others) (first_cell c))) (take l.row-index l.students))
