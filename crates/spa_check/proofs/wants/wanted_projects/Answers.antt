use Rattle.spa_check.proofs.Base.{rules}
use Rattle.spa_check.proofs.Wanting.{wanted_all, wanted_front}
use Rattle.spa_check.proofs.wants.wanted_projects.Goals as goal

pub returns-in-Some-clause-each : goal.returns-in-Some-clause-each
returns-in-Some-clause-each c p = search (rules, wanted_front)

pub returns-in-None-clause-each : goal.returns-in-None-clause-each
returns-in-None-clause-each c p = search (rules, wanted_all)
