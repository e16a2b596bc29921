use Rattle.spa_honest.proofs.Worst.{lecturers_worst}
use Rattle.spa_honest.proofs.laws.lecturers_worst.Goals as goal

pub returns : goal.returns
returns c = lecturers_worst
