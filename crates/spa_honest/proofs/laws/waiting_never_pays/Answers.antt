use Rattle.spa_honest.proofs.Base.{ranked_of}
use Rattle.spa_honest.proofs.Waits.{waiting_never_pays}
use Rattle.spa_honest.proofs.laws.waiting_never_pays.Goals as goal

pub returns : goal.returns
returns c = λ i j s p m n lawful_i lawful_j differ best_i stable_j left on room. waiting_never_pays i j s p m n (ranked_of i lawful_i)
    (ranked_of j lawful_j) differ best_i stable_j left on room
