use Rattle.spa_honest.proofs.Base.{ranked_of}
use Rattle.spa_honest.proofs.Gains.{no_group_gains}
use Rattle.spa_honest.proofs.laws.no_group_gains.Goals as goal

pub returns : goal.returns
returns c = λ i j group m n lawful_i lawful_j some differ best stable. no_group_gains i j group m n (ranked_of i lawful_i)
    (ranked_of j lawful_j) some differ best stable
