use Rattle.spa_model.proofs.Base.{IsLeastOf, NotAcceptable}
use Rattle.spa_model.proofs.PairFaults.{FaultBelow}
use Rattle.spa_model.proofs.pairs.not_acceptable.Given as goal

-- the least row so far
abbrev pub invariant-loop-j : goal.invariant-loop-j
invariant-loop-j l = IsLeastOf (FaultBelow l.instance l.lines NotAcceptable l.j) l.best
