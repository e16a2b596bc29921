use Rattle.portal_store.proofs.Again as again
use Rattle.portal_store.proofs.laws.opens_fresh.Goals as goal

pub returns : goal.returns
returns c = again.opens_fresh
