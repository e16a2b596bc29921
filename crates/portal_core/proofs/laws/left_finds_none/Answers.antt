use Rattle.portal_core.proofs.Reasons.{left_finds_none}
use Rattle.portal_core.proofs.laws.left_finds_none.Goals as goal

pub returns : goal.returns
returns c = left_finds_none
