use Rattle.std.proofs.Common.{rules}
use Rattle.portal_tables.proofs.Named.{table_there, view_there}
use Rattle.portal_tables.proofs.sql.names.is_there.Goals as goal

pub returns-then-has_tables : goal.returns-then-has_tables
returns-then-has_tables c = table_there c.args.names c.args.schema.now c.has_tables.result (search rules) (search rules)

pub returns-else-has_tables : goal.returns-else-has_tables
returns-else-has_tables c = view_there c.args.names c.args.schema.now c.has_tables.result c.has_views.result (search rules) (search rules)
    (search rules)
