use Rattle.portal_rules.proofs.Base.{◌≡◌, Option, filter_map, take}
use Rattle.std.specs.Prelude.{Ok}
use Rattle.std.specs.Fn.{FnReturnsAt}
use Rattle.portal_rules.proofs.collecting.try_filter_map.Given as goal

abbrev pub invariant-loop-item : goal.invariant-loop-item
invariant-loop-item g l = (f : g.row.T.Denot → Option g.row.U.Denot)
    → ((x : _) (o : Option g.row.U.Denot) → FnReturnsAt g.F.Fn l.make x (Ok o) → o ≡ f x)
    → l.made.items ≡ filter_map f (take l.item-index l.items)
