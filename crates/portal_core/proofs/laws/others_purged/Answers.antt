use Rattle.portal_core.proofs.Purged as proofs
use Rattle.portal_core.proofs.laws.others_purged.Goals as goal

pub returns : goal.returns
returns c = proofs.others_purged
