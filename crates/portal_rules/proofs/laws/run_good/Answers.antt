use Rattle.portal_rules.proofs.Steps as runs
use Rattle.portal_rules.proofs.laws.run_good.Goals as goal

pub returns : goal.returns
returns c = runs.run_good
