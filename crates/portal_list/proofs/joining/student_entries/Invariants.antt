use Rattle.portal_list.proofs.Base.{◌≡◌, ◌++◌, map, option_map, into_iter_items, students_fitting}
use Rattle.portal_list.proofs.joining.student_entries.Given as goal

-- what is still to come, behind what is there, makes the whole
abbrev pub invariant-loop-row : goal.invariant-loop-row
invariant-loop-row l = option_map (λ ss. l.entries.items ++ ss)
    (students_fitting l.round (into_iter_items l.row-iterator) (map (λ c. (c.0, c.1.items)) l.choices.items) l.pairs.items
    (map (λ c. (c.0, c.1.items)) l.earlier_choices.items) l.earlier_pairs.items)
    ≡ students_fitting l.round l.fn.rows.items (map (λ c. (c.0, c.1.items)) l.fn.choices.items) l.fn.pairs.items
    (map (λ c. (c.0, c.1.items)) l.fn.earlier_choices.items) l.fn.earlier_pairs.items
