use Rattle.std.proofs.lemmas.Grind.{common_steps}
use Rattle.portal_rules.proofs.Base.{arith}
use Rattle.portal_rules.proofs.catalogue.name_among.Goals as goal

pub loop-lecturer-preserved : goal.loop-lecturer-preserved
loop-lecturer-preserved g c = grind (arith, common_steps)

pub returns-then-eq : goal.returns-then-eq
returns-then-eq g c = grind (arith, common_steps)
