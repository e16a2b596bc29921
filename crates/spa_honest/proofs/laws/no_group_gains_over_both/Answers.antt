use Rattle.spa_honest.proofs.Base.{ranked_of}
use Rattle.spa_honest.proofs.Gains.{no_group_gains_over_both}
use Rattle.spa_honest.proofs.laws.no_group_gains_over_both.Goals as goal

pub returns : goal.returns
returns c = λ i j group m n x lawful_i lawful_j differ some best stable adds. no_group_gains_over_both i j group m n x
    (ranked_of i lawful_i) (ranked_of j lawful_j) some differ best stable adds
