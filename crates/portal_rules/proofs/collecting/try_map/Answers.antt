use Rattle.std.proofs.lemmas.Grind.{common_steps}
use Rattle.portal_rules.proofs.Base.{◌≡◌, refl, arith}
use Rattle.portal_rules.proofs.collecting.try_map.Goals as goal

pub loop-item-preserved : goal.loop-item-preserved
loop-item-preserved g c f makes =
    let said : c.in_ok-make.field-0 ≡ f c.item-item.result =
    makes c.item-item.result c.in_ok-make.field-0 (record { shown = _; shows = refl; says = record { met = c.in_ok-make.ensures } }) in
    grind (arith, common_steps, c.loop-item.invariant f makes, said)

pub returns : goal.returns
returns g c f makes = grind (arith, common_steps, c.loop-item.invariant f makes)
