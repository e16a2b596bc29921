use Rattle.portal_wire.proofs.Base.{◌≡◌, take}
use Rattle.std.specs.Prelude.{fold}
use Rattle.portal_wire.specs.inner.RouteRows.{with_route}
use Rattle.portal_wire.proofs.routes.insert_each.Given as goal

abbrev pub invariant-loop-entry : goal.invariant-loop-entry
invariant-loop-entry l = l.router ≡ fold with_route l.initial.router (take l.entry-index l.table)
