use Rattle.portal_core.proofs.HonestGroups.{honest_is_best}
use Rattle.portal_core.proofs.laws.honest_is_best.Goals as goal

pub returns : goal.returns
returns c = honest_is_best
