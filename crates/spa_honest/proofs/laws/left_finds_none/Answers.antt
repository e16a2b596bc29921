use Rattle.spa_honest.proofs.Waits.{left_finds_none}
use Rattle.spa_honest.proofs.laws.left_finds_none.Goals as goal

pub returns : goal.returns
returns c = left_finds_none
