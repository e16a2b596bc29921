use Rattle.std.proofs.Common.{arith}
use Rattle.std.proofs.lemmas.Grind.{common_steps}
use Rattle.spa_check.proofs.blocking.blocking_pairs.Goals as goal

pub returns-clause-blocks : goal.returns-clause-blocks
returns-clause-blocks c = grind (arith, common_steps)
