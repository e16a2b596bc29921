use Rattle.spa_model.proofs.OneInstance.{instance_is_one}
use Rattle.spa_model.proofs.laws.instance_is_one.Goals as goal

pub returns : goal.returns
returns c = λ rows i j a b. instance_is_one rows a.faultless i j a.lawful a.stands b.lawful b.stands
