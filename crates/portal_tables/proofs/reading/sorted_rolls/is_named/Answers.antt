use Rattle.portal_tables.proofs.Base.{◌∙◌, nat_cmp, slice_cmp, always_returns_same, first_cell, rules}
use Rattle.portal_tables.proofs.NamedRows.{known_by}
use Rattle.portal_tables.proofs.reading.sorted_rolls.is_named.Goals as goal

pub returns : goal.returns
returns c =
    c.is_ok.ensures.value
    ∙ known_by c.args.rows.now c.args.key.now c.binary_search_by-found.result c.binary_search_by-found.ensures.bound
    (c.binary_search_by-found.ensures.position (λ row. slice_cmp nat_cmp (first_cell row) c.args.key.now)
    (always_returns_same _ _ _ (λ a r h k. search rules))) c.requires
