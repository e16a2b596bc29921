use Rattle.portal_core.proofs.SeenByChoice as proofs
use Rattle.portal_core.proofs.laws.lists_seen_by_choice_alone.Goals as goal

pub returns : goal.returns
returns c = proofs.lists_seen
