use Rattle.spa_model.proofs.Base.{◌≡◌, length, map, IsLeastOf, LecturerOver, lecturer_of}
use Rattle.spa_model.proofs.PairFaults.{FaultBelow, AreCounts}
use Rattle.spa_model.proofs.pairs.lecturer_over.Given as goal

-- the counts, and the least row so far
abbrev pub invariant-loop-j : goal.invariant-loop-j
invariant-loop-j l = record {
  size : length l.counts.items ≡ length l.instance.rankings;
  counts : AreCounts l.counts.items (map (lecturer_of l.instance) l.projects) l.j;
  least : IsLeastOf (FaultBelow l.instance l.lines LecturerOver l.j) l.best;
}
