use Rattle.spa_honest.proofs.Base.{ranked_of}
use Rattle.spa_honest.proofs.Exists.{best_of}
use Rattle.spa_honest.proofs.laws.best_there_is.Goals as goal

pub returns : goal.returns
returns c = λ i lawful. best_of i (ranked_of i lawful)
