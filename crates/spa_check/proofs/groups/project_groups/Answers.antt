use Rattle.spa_check.proofs.Base.{rules}
use Rattle.spa_check.proofs.Grouping.{project_groups_more, project_groups_skip}
use Rattle.spa_check.proofs.groups.project_groups.Goals as goal
use Rattle.spa_check.proofs.groups.project_groups.Goals.{in-Some, in_default}

pub loop-s-preserved : goal.loop-s-preserved
loop-s-preserved c = search (rules, in-Some, project_groups_more, in_default, project_groups_skip)
