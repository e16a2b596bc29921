use Rattle.std.proofs.Common.{rules}
use Rattle.portal_rules.proofs.room.project_left.Goals as goal

pub returns : goal.returns
returns c = search rules
