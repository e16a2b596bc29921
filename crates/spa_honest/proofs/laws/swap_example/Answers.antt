use Rattle.spa_honest.proofs.Varied.{swap_lawful, swap_best, swap_blocked}
use Rattle.spa_honest.proofs.laws.swap_example.Goals as goal

pub returns : goal.returns
returns c = record { lawful = swap_lawful; best = swap_best; blocked = swap_blocked }
