use Rattle.spa_honest.proofs.Base.{ranked_of}
use Rattle.spa_honest.proofs.Shorter.{shorter_never_harm}
use Rattle.spa_honest.proofs.laws.shorter_never_harm.Goals as goal

pub returns : goal.returns
returns c = λ i j t m n lawful differ cut stable best. shorter_never_harm i j m n t (ranked_of i lawful) differ cut stable best
