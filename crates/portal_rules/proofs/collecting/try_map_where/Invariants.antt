use Rattle.portal_rules.proofs.Base.{◌≡◌, Bool, map, filter, take}
use Rattle.std.specs.Prelude.{Ok}
use Rattle.std.specs.Fn.{FnReturnsAt}
use Rattle.portal_rules.proofs.collecting.try_map_where.Given as goal

abbrev pub invariant-loop-item : goal.invariant-loop-item
invariant-loop-item g l =
    (p : g.row.T.Denot → Bool) (f : g.row.T.Denot → g.row.U.Denot) → ((x : _) (b : Bool) → FnReturnsAt g.P.Fn l.keep x b → b ≡ p x)
    → ((x : _) (y : g.row.U.Denot) → FnReturnsAt g.F.Fn l.make x (Ok y) → y ≡ f x)
    → l.made.items ≡ map f (filter p (take l.item-index l.items))
