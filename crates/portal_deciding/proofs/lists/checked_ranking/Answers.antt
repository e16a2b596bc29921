use Rattle.std.proofs.Common.{rules}
use Rattle.portal_deciding.proofs.lists.checked_ranking.Goals as goal

pub returns-clause-fault : goal.returns-clause-fault
returns-clause-fault c = search rules
