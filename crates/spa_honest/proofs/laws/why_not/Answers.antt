use Rattle.spa_honest.proofs.Base.{ranked_of}
use Rattle.spa_honest.proofs.Explained.{why_not, stable_so}
use Rattle.spa_honest.proofs.laws.why_not.Goals as goal

pub returns : goal.returns
returns c = λ i m lawful matching. (λ stable s p wants. why_not i m s p wants (ranked_of i lawful) stable, stable_so i m matching)
