use Rattle.portal_list.proofs.Base.{◌≡◌, ◌++◌, take, drop, put}
use Rattle.portal_list.proofs.keys.place_for.Given as goal

abbrev pub invariant-loop-i : goal.invariant-loop-i
invariant-loop-i g l = (row : g.row.T.Denot) → g.T.Keyed.key_of row ≡ l.key
    → take l.i l.rows ++ put g.T.Keyed.key_of row (drop l.i l.rows) ≡ put g.T.Keyed.key_of row l.rows
