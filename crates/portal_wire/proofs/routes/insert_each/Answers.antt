use Rattle.portal_wire.proofs.Base.{◌≡◌, ℕ, ◌<◌, List, Ok, Err, length, take, ap, sym, ◌∙◌, Route, RowsOf}
use Rattle.std.proofs.Common.{◌+◌, Result, get_or}
use Rattle.std.proofs.lemmas.List.Sums.{fold_more}
use Rattle.std.specs.Borrow.{Bor}
use Rattle.std.specs.Prelude.{fold}
use Rattle.matchit.specs.Route.{Scan}
use Rattle.matchit.specs.Router.{RouteOf, InsertsRead}
use Rattle.matchit.specs.declared.error.InsertError.{InsertError}
use Rattle.portal_wire.specs.inner.RouteRows.{with_read, with_route}
use Rattle.portal_wire.proofs.routes.insert_each.Goals as goal

inserted : (read : Result Scan InsertError) (at : Route) (old new : RowsOf (RouteOf Route)) (u : Unit {0})
    → InsertsRead read at old new (Ok u) → new ≡ with_read read at old
inserted (Ok s) at old new u is = is.1
inserted (Err why) at old new u is = is.0

one_more : (table : List (Bor (List ℕ) × Route)) (first old new : RowsOf (RouteOf Route)) (i : ℕ) (d : Bor (List ℕ) × Route)
    → i < length table
    → old ≡ fold with_route first (take i table) → new ≡ with_route old (get_or table i d)
    → new ≡ fold with_route first (take (i + 1) table)
one_more table first old new i d less so is = is
    ∙ (ap (λ rows. with_route rows (get_or table i d)) so ∙ sym (fold_more with_route first table i d less))

pub loop-entry-preserved : goal.loop-entry-preserved
loop-entry-preserved c = one_more _ _ _ _ _ _ c.loop-entry-test.true c.loop-entry.invariant (inserted _ _ _ _ _ c.in_ok-insert.ensures)
