use Rattle.spa_honest.proofs.Worked.{waiting_lawful, second_lawful, waiting_best, second_best}
use Rattle.spa_honest.proofs.laws.limited_example.Goals as goal

pub returns : goal.returns
returns c = record { lawful = (waiting_lawful, second_lawful); first = waiting_best; second = second_best }
