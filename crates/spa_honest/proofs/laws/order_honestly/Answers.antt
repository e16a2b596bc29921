use Rattle.spa_honest.proofs.Base.{ranked_of}
use Rattle.spa_honest.proofs.Gains.{order_honestly}
use Rattle.spa_honest.proofs.laws.order_honestly.Goals as goal

pub returns : goal.returns
returns c = λ i j s m n lawful_i lawful_j differ within best stable. order_honestly i j s m n (ranked_of i lawful_i)
    (ranked_of j lawful_j) differ within best stable
