use Rattle.portal_list.proofs.Base.{rules, always_returns_same, is_before}
use Rattle.portal_rules.proofs.Adjacent.{adjacent_rise}
use Rattle.portal_list.proofs.keys.keys_rise.Goals as goal

pub returns : goal.returns
returns g c = adjacent_rise g.K.Keyed.key_of c.args.rows.now c.is_sorted_by.result
    (c.is_sorted_by.ensures.cases (λ x y. is_before (g.K.Keyed.key_of x) (g.K.Keyed.key_of y))
    (always_returns_same _ _ _ (λ a r h k. search rules)))
