use Rattle.spa_honest.proofs.Base.{refl}
use Rattle.spa_honest.proofs.Varied.{two_lawful, two_best, two_other}
use Rattle.spa_honest.proofs.laws.two_ways_example.Goals as goal

pub returns : goal.returns
returns c = record { lawful = two_lawful; best = two_best; other = two_other; first = (refl, refl) }
