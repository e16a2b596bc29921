use Rattle.spa_check.proofs.Base.{rules}
use Rattle.spa_check.proofs.Grouping.{lecturer_groups_more, lecturer_groups_skip}
use Rattle.spa_check.proofs.groups.lecturer_groups.Goals as goal
use Rattle.spa_check.proofs.groups.lecturer_groups.Goals.{in-Some, in_default}

pub loop-s-preserved : goal.loop-s-preserved
loop-s-preserved c = search (rules, in-Some, lecturer_groups_more, in_default, lecturer_groups_skip)
