use Rattle.spa_check.proofs.Grouping.{AreLecturerGroupsBefore}
use Rattle.spa_check.proofs.groups.lecturer_groups.Given as goal

-- the groups of the students so far
abbrev pub invariant-loop-s : goal.invariant-loop-s
invariant-loop-s l = AreLecturerGroupsBefore l.instance l.matching l.s l.groups.items
