use Rattle.portal_wire.proofs.Base.{◌≡◌, map, drop, ◌++◌, option_map, items_view, item_texts}
use Rattle.portal_wire.proofs.bodies.texts_of.Given as goal

abbrev pub invariant-loop-value : goal.invariant-loop-value
invariant-loop-value l =
    item_texts (items_view l.values) ≡ option_map (λ ts. map (λ t. t.items) l.texts.items ++ ts)
    (item_texts (items_view (drop l.value-index l.values)))
