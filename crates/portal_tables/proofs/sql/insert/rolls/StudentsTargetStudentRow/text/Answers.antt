use Rattle.portal_tables.proofs.Base.{refl}
use Rattle.portal_tables.proofs.Statements.{students_added, student_one, by_one}
use Rattle.portal_tables.proofs.sql.insert.rolls.StudentsTargetStudentRow.text.Goals as goal

pub returns : goal.returns
returns g c = students_added g.S.Store 1 _ _ student_one (by_one (λ a more. refl))
