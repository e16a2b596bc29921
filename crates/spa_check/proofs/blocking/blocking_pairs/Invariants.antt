use Rattle.spa_check.proofs.Base.{AreBlocksBefore}
use Rattle.spa_check.proofs.blocking.blocking_pairs.Given as goal

-- the pairs of the students so far
abbrev pub invariant-loop-s : goal.invariant-loop-s
invariant-loop-s l = AreBlocksBefore l.instance l.matching l.s 0 l.blocks.items
