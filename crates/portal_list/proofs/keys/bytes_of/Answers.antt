use Rattle.portal_list.proofs.Base.{arith, common_steps}
use Rattle.portal_list.proofs.keys.bytes_of.Goals as goal

pub loop-key-preserved : goal.loop-key-preserved
loop-key-preserved c = grind (arith, common_steps)
