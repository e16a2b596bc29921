use Rattle.spa_model.proofs.Base.{IsLeastOf, NoSuchProject}
use Rattle.spa_model.proofs.PairFaults.{FaultBelow}
use Rattle.spa_model.proofs.pairs.no_such_project.Given as goal

-- the least row so far
abbrev pub invariant-loop-j : goal.invariant-loop-j
invariant-loop-j l = IsLeastOf (FaultBelow l.instance l.lines NoSuchProject l.j) l.best
