use Rattle.spa_model.proofs.Base.{IsLeastOf, NoSuchStudent}
use Rattle.spa_model.proofs.PairFaults.{FaultBelow}
use Rattle.spa_model.proofs.pairs.no_such_student.Given as goal

-- the least row so far
abbrev pub invariant-loop-j : goal.invariant-loop-j
invariant-loop-j l = IsLeastOf (FaultBelow l.instance l.lines NoSuchStudent l.j) l.best
