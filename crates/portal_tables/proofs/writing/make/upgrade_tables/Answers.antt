use Rattle.std.proofs.Common.{rules}
use Rattle.portal_tables.proofs.writing.make.upgrade_tables.Goals as goal

pub returns-clause-ok : goal.returns-clause-ok
returns-clause-ok g c = search rules

pub returns-clause-err : goal.returns-clause-err
returns-clause-err g c = search rules

pub returns-clause-crash : goal.returns-clause-crash
returns-clause-crash g c = search rules
