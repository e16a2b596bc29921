use Rattle.portal_rules.proofs.Base.{◌≡◌, map, take, data_of}
use Rattle.portal_deciding.proofs.bodies.values_of.Given as goal

abbrev pub invariant-loop-item : goal.invariant-loop-item
invariant-loop-item g l = map data_of l.values.items ≡ map g.X.ToJson.json_of (take l.item-index l.items)
