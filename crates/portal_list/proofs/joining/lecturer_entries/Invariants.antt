use Rattle.portal_list.proofs.Base.{◌≡◌, ◌++◌, map, option_map, into_iter_items, lecturers_fitting}
use Rattle.portal_list.proofs.joining.lecturer_entries.Given as goal

-- what is still to come, behind what is there, makes the whole
abbrev pub invariant-loop-row : goal.invariant-loop-row
invariant-loop-row l = option_map (λ ls. l.entries.items ++ ls)
    (lecturers_fitting (into_iter_items l.row-iterator) (map (λ r. (r.0, r.1.items)) l.rest.items)
    (map (λ r. (r.0, r.1.items)) l.earlier.items))
    ≡ lecturers_fitting l.fn.rows.items (map (λ r. (r.0, r.1.items)) l.fn.rankings.items)
    (map (λ r. (r.0, r.1.items)) l.fn.earlier_rankings.items)
