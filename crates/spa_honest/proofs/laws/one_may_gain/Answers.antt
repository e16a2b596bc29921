use Rattle.spa_honest.proofs.Worked.{one_may_gain}
use Rattle.spa_honest.proofs.laws.one_may_gain.Goals as goal

pub returns : goal.returns
returns c = one_may_gain
