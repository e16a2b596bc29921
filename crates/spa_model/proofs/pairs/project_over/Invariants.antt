use Rattle.spa_model.proofs.Base.{◌≡◌, length, IsLeastOf, ProjectOver}
use Rattle.spa_model.proofs.PairFaults.{FaultBelow, AreCounts}
use Rattle.spa_model.proofs.pairs.project_over.Given as goal

-- the counts, and the least row so far
abbrev pub invariant-loop-j : goal.invariant-loop-j
invariant-loop-j l = record {
  size : length l.counts.items ≡ length l.instance.lecturers;
  counts : AreCounts l.counts.items l.projects l.j;
  least : IsLeastOf (FaultBelow l.instance l.lines ProjectOver l.j) l.best;
}
