use Rattle.std.proofs.Common.{rules}
use Rattle.portal_deciding.proofs.moves.publish.Goals as goal

pub returns : goal.returns
returns c = search rules
