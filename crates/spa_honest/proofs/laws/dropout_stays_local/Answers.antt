use Rattle.spa_honest.proofs.Dropout.{dropout_stays_local}
use Rattle.spa_honest.proofs.laws.dropout_stays_local.Goals as goal

pub returns : goal.returns
returns c = dropout_stays_local
