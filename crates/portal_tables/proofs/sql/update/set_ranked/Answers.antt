use Rattle.portal_tables.proofs.Runs.{does_more}
use Rattle.portal_tables.proofs.Statements.{lecturer_ranked}
use Rattle.portal_tables.proofs.sql.update.set_ranked.Goals as goal

pub returns : goal.returns
returns g c = does_more g.S.Store _ _ _ _ _ c.write.ensures (lecturer_ranked _ _ c.args.lecturer.now)
