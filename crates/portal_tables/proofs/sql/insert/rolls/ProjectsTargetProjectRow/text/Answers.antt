use Rattle.portal_tables.proofs.Base.{refl}
use Rattle.portal_tables.proofs.Statements.{projects_added, project_one, by_one}
use Rattle.portal_tables.proofs.sql.insert.rolls.ProjectsTargetProjectRow.text.Goals as goal

pub returns : goal.returns
returns g c = projects_added g.S.Store 1 _ _ project_one (by_one (λ a more. refl))
