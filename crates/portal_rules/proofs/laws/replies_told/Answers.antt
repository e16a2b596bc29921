use Rattle.portal_rules.proofs.Hearing as hearing
use Rattle.portal_rules.proofs.laws.replies_told.Goals as goal

pub returns : goal.returns
returns c = hearing.replies_told
