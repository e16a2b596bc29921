use Rattle.portal_tables.proofs.Runs.{does_more}
use Rattle.portal_tables.proofs.Statements.{version_set}
use Rattle.portal_tables.proofs.sql.update.set_version.Goals as goal

pub returns : goal.returns
returns g c = does_more g.S.Store _ _ _ _ _ (rw c.to_sql.ensures at c.write.ensures) (version_set _ _ c.args.version)
