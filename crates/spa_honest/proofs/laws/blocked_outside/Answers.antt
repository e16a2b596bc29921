use Rattle.spa_honest.proofs.Base.{ranked_of}
use Rattle.spa_honest.proofs.Blocked.{somebody_blocks}
use Rattle.spa_honest.proofs.laws.blocked_outside.Goals as goal

pub returns : goal.returns
returns c = λ i m x s lawful best there better. somebody_blocks i (ranked_of i lawful) m x best there s better
