use Rattle.portal_tables.proofs.Base.{refl}
use Rattle.portal_tables.proofs.Statements.{lecturers_added, lecturer_eight, by_eight}
use Rattle.portal_tables.proofs.sql.insert.rolls.LecturersTargetLecturerRow.text_of_eight.Goals as goal

pub returns : goal.returns
returns g c = lecturers_added g.S.Store 8 _ _ lecturer_eight (by_eight (λ a b c d e f g h more. refl))
