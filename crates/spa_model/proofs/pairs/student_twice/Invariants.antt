use Rattle.spa_model.proofs.Base.{◌≡◌, length, IsLeastOf, StudentTwice}
use Rattle.spa_model.proofs.PairFaults.{FaultBelow, AreMarks}
use Rattle.spa_model.proofs.pairs.student_twice.Given as goal

-- who was seen, and the least row so far
abbrev pub invariant-loop-j : goal.invariant-loop-j
invariant-loop-j l = record {
  size : length l.seen.items ≡ length l.instance.choices;
  marks : AreMarks l.seen.items l.students l.j;
  least : IsLeastOf (FaultBelow l.instance l.lines StudentTwice l.j) l.best;
}
