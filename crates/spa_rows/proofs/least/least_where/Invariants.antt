use Rattle.std.specs.Fn.{FnReturnsAt}
use Rattle.spa_rows.proofs.Base.{IsLeastTold}
use Rattle.spa_rows.proofs.least.least_where.Given as goal

-- the least row so far
abbrev pub invariant-loop-line : goal.invariant-loop-line
invariant-loop-line g l = IsLeastTold l.lines g.L.Line.row_of (FnReturnsAt g.F.Fn l.is_bad) l.line-index l.best
