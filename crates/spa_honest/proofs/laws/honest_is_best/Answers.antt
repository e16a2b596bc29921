use Rattle.spa_honest.proofs.Base.{ranked_of}
use Rattle.spa_honest.proofs.Gains.{honest_is_best}
use Rattle.spa_honest.proofs.laws.honest_is_best.Goals as goal

pub returns : goal.returns
returns c = λ i j s m n lawful_i lawful_j differ best_i stable_j. honest_is_best i j s m n (ranked_of i lawful_i)
    (ranked_of j lawful_j) differ best_i stable_j
