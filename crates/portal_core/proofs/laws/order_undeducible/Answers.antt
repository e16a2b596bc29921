use Rattle.portal_core.proofs.Undeducible as proofs
use Rattle.portal_core.proofs.laws.order_undeducible.Goals as goal

pub returns : goal.returns
returns c = proofs.order_undeducible
