use Rattle.spa_model.proofs.OneOnly.{best_is_one}
use Rattle.spa_model.proofs.laws.best_is_one.Goals as goal

pub returns : goal.returns
returns c = best_is_one
