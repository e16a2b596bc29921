use Rattle.portal_tables.proofs.Base.{refl}
use Rattle.portal_tables.proofs.Statements.{students_added, student_eight, by_eight}
use Rattle.portal_tables.proofs.sql.insert.rolls.StudentsTargetStudentRow.text_of_eight.Goals as goal

pub returns : goal.returns
returns g c = students_added g.S.Store 8 _ _ student_eight (by_eight (λ a b c d e f g h more. refl))
