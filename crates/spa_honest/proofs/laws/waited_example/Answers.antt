use Rattle.spa_honest.proofs.Base.{rules}
use Rattle.spa_honest.proofs.Worked.{at_once_lawful, waiting_lawful, at_once_best, waiting_best, bells_left}
use Rattle.spa_honest.proofs.Worked.{no_other_left}
use Rattle.spa_honest.proofs.laws.waited_example.Goals as goal

pub returns : goal.returns
returns c = search (rules, at_once_lawful, waiting_lawful, at_once_best, waiting_best, no_other_left, bells_left)
