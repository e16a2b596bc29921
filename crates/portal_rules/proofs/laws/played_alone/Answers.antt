use Rattle.portal_rules.proofs.Alone as alone
use Rattle.portal_rules.proofs.laws.played_alone.Goals as goal

pub returns : goal.returns
returns c = alone.played_alone
