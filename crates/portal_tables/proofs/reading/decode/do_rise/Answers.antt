use Rattle.portal_tables.proofs.Base.{always_returns_same, is_before, adjacent_rise, first_cell, rules}
use Rattle.portal_tables.proofs.reading.decode.do_rise.Goals as goal

pub returns : goal.returns
returns c = adjacent_rise first_cell c.args.rows.now c.is_sorted_by.result
    (c.is_sorted_by.ensures.cases (λ x y. is_before (first_cell x) (first_cell y)) (always_returns_same _ _ _ (λ a r h k. search rules)))
