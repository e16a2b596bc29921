use Rattle.std.proofs.Common.{rules}
use Rattle.portal_tables.proofs.sql.select.Query.text.Goals as goal

pub returns-in-Choosers-First-default : goal.returns-in-Choosers-First-default
returns-in-Choosers-First-default c = search rules
