use Rattle.spa_check.proofs.Base.{length, AreBlocksBefore, ◌-◌}
use Rattle.spa_check.proofs.blocking.add_blocks.Given as goal

-- the pairs so far
abbrev pub invariant-loop-p : goal.invariant-loop-p
invariant-loop-p l = AreBlocksBefore l.instance l.matching l.s l.next l.blocks.items

abbrev pub decreases-loop-p : goal.decreases-loop-p
decreases-loop-p l = length l.instance.lecturers - l.next
