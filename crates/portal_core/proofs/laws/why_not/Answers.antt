use Rattle.portal_core.proofs.Reasons.{why_not}
use Rattle.portal_core.proofs.laws.why_not.Goals as goal

pub returns : goal.returns
returns c = why_not
