use Rattle.portal_rules.proofs.Disclosed as disclosed
use Rattle.portal_rules.proofs.laws.places_unseen.Goals as goal

pub returns : goal.returns
returns c = disclosed.places_unseen
