use Rattle.spa_honest.proofs.Base.{ranked_of}
use Rattle.spa_honest.proofs.Assigned.{same_assigned}
use Rattle.spa_honest.proofs.laws.same_assigned.Goals as goal

pub returns : goal.returns
returns c = λ i m n lawful a b. same_assigned i (ranked_of i lawful) m n a b
