use Rattle.portal_list.proofs.Base.{arith, common_steps}
use Rattle.portal_list.proofs.roll_checks.push_codes.Goals as goal

pub loop-row-preserved : goal.loop-row-preserved
loop-row-preserved g c = grind (arith, common_steps)
