use Rattle.portal_rules.proofs.Base.{◌≡◌, map, take}
use Rattle.std.specs.Prelude.{Ok}
use Rattle.std.specs.Fn.{FnReturnsAt}
use Rattle.portal_rules.proofs.collecting.try_map.Given as goal

abbrev pub invariant-loop-item : goal.invariant-loop-item
invariant-loop-item g l = (f : g.row.T.Denot → g.row.U.Denot) → ((x : _) (y : g.row.U.Denot) → FnReturnsAt g.F.Fn l.make x (Ok y) → y ≡ f x)
    → l.made.items ≡ map f (take l.item-index l.items)
