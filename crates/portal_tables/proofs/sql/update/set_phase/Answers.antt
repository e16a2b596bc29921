use Rattle.portal_tables.proofs.Runs.{does_more}
use Rattle.portal_tables.proofs.Statements.{phase_moved}
use Rattle.portal_tables.proofs.sql.update.set_phase.Goals as goal

pub returns : goal.returns
returns g c = does_more g.S.Store _ _ _ _ _ (rw (c.phase_text.ensures, c.to_sql.ensures, c.phase_number.ensures) at c.write.ensures)
    (phase_moved c.args.round _ _ _)
