use Rattle.portal_tables.proofs.Base.{◌≡◌, ◌++◌, List, length, map, Ok, Does, GoesOn, Adds}
use Rattle.portal_tables.proofs.sql.insert.add_all.Given as goal

abbrev pub invariant-runs : goal.invariant-runs
invariant-runs g l = record {
  before : List g.row.R.Denot;
  cut : before ++ l.rest ≡ l.rows;
  does : Does g.S.Store (GoesOn (Adds (g.T.Target.tree l.table) (map g.T.Target.cells before))) (Ok (tt {0})) l.fn.tx l.tx;
}

abbrev pub decreases-runs : goal.decreases-runs
decreases-runs g l = length l.rest
