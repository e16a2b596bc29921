use Rattle.portal_rules.proofs.Only as only
use Rattle.portal_rules.proofs.laws.step_once.Goals as goal

pub returns : goal.returns
returns c = only.step_once
