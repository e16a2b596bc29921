use Rattle.portal_tables.proofs.Base.{refl}
use Rattle.portal_tables.proofs.Statements.{lecturers_added, lecturer_one, by_one}
use Rattle.portal_tables.proofs.sql.insert.rolls.LecturersTargetLecturerRow.text.Goals as goal

pub returns : goal.returns
returns g c = lecturers_added g.S.Store 1 _ _ lecturer_one (by_one (λ a more. refl))
