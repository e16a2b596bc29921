use Rattle.spa_model.proofs.OneOnly.{one_letter}
use Rattle.spa_model.proofs.laws.one_letter.Goals as goal

pub returns : goal.returns
returns c = one_letter
