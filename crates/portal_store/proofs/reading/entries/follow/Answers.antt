use Rattle.std.proofs.Common.{rules}
use Rattle.portal_store.proofs.reading.entries.follow.Goals as goal

pub returns-after-take-clause-not_made : goal.returns-after-take-clause-not_made
returns-after-take-clause-not_made c = search rules
