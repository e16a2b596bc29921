-- The table of routes.
use Rattle.std.specs.Prelude.{ℕ, List, [], map, Result, Ok, Err}
use Rattle.std.specs.Borrow.{Bor}
use Rattle.matchit.specs.Order.{placed}
use Rattle.matchit.specs.Route.{Scan, parse_route}
use Rattle.matchit.specs.declared.error.InsertError.{InsertError}
use Rattle.matchit.specs.Rows.{RowsOf}
use Rattle.matchit.specs.Router.{RouteOf, route_from}
use Rattle.portal_wire.specs.declared.routes.Route.{Route}
use Rattle.portal_wire.specs.Wish.{the_paths}

-- a path without parameters as a route
abbrev pub row_of : List ℕ × Route → List ℕ × RouteOf Route
row_of p = (p.0, record { pattern = p.0; text = p.0; names = []; value = p.1 })

-- the rows of the router
unfoldable pub the_rows : RowsOf (RouteOf Route)
the_rows = map row_of the_paths

-- the rows with one more route, if its path can be read
abbrev pub with_read : Result Scan InsertError → Route → RowsOf (RouteOf Route) → RowsOf (RouteOf Route)
with_read (Ok s) at rows = placed (s.pattern, route_from s at) rows
with_read (Err why) at rows = rows

-- the same, of a path and its route
abbrev pub with_route : RowsOf (RouteOf Route) → Bor (List ℕ) × Route → RowsOf (RouteOf Route)
with_route rows entry = with_read (parse_route entry.0.now) entry.1 rows
