use Rattle.portal_rules.proofs.Once as once
use Rattle.portal_rules.proofs.laws.heard_once.Goals as goal

pub returns : goal.returns
returns c = record { there = once.heard_there; once = once.heard_once }
