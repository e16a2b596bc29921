use Rattle.portal_rules.proofs.Only as only
use Rattle.portal_rules.proofs.laws.one_run.Goals as goal

pub returns : goal.returns
returns c = only.one_run
