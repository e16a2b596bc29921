use Rattle.portal_core.proofs.HonestGroups.{no_group_gains}
use Rattle.portal_core.proofs.laws.no_group_gains.Goals as goal

pub returns : goal.returns
returns c = no_group_gains
