use Rattle.portal_store.proofs.Again as again
use Rattle.portal_store.proofs.laws.upgrades_again.Goals as goal

pub returns : goal.returns
returns c = again.upgrades_again
