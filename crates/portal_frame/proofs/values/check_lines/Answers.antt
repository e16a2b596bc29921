use Rattle.std.proofs.Common.{rules}
use Rattle.portal_frame.proofs.values.check_lines.Goals as goal

pub returns-in_default : goal.returns-in_default
returns-in_default c = search rules

pub returns-in-Nothing-found_value-2 : goal.returns-in-Nothing-found_value-2
returns-in-Nothing-found_value-2 c = search rules

pub returns-in-One-found_value : goal.returns-in-One-found_value
returns-in-One-found_value c = search rules

pub returns-in-Many-found_value : goal.returns-in-Many-found_value
returns-in-Many-found_value c = search rules
