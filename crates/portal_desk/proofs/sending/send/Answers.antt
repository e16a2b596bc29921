use Rattle.std.proofs.Common.{rules}
use Rattle.portal_desk.proofs.sending.send.Goals as goal

pub returns-in-Err-clause-writes : goal.returns-in-Err-clause-writes
returns-in-Err-clause-writes g c = search rules

pub returns-in-Err-clause-failures : goal.returns-in-Err-clause-failures
returns-in-Err-clause-failures g c = search rules
