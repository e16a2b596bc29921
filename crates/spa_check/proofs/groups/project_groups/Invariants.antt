use Rattle.spa_check.proofs.Grouping.{AreProjectGroupsBefore}
use Rattle.spa_check.proofs.groups.project_groups.Given as goal

-- the groups of the students so far
abbrev pub invariant-loop-s : goal.invariant-loop-s
invariant-loop-s l = AreProjectGroupsBefore l.instance l.matching l.s l.groups.items
