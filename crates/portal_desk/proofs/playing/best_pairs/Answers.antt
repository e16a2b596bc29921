use Rattle.std.proofs.Common.{rules}
use Rattle.portal_desk.proofs.playing.best_pairs.Goals as goal

pub returns : goal.returns
returns c = search rules
