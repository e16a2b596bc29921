use Rattle.portal_tables.proofs.InTurn.{reads_open, reads_then, reads_more, reads_handed}
use Rattle.portal_tables.proofs.reading.sorted_rolls.rolls_in.Goals as goal

pub returns-in_err-projects : goal.returns-in_err-projects
returns-in_err-projects g c =
    reads_handed c.from_residual-in_err-projects.ensures.1 (reads_then c.in_ok-lecturers.ensures (reads_open c.in_err-projects.ensures))
    (λ own right told blamed it. told.1 blamed (it.0, it.1.projects_rise))

pub returns-in_err-students : goal.returns-in_err-students
returns-in_err-students g c =
    reads_handed c.from_residual-in_err-students.ensures.1
    (reads_then c.in_ok-lecturers.ensures (reads_open (reads_then c.in_ok-projects.ensures (reads_open c.in_err-students.ensures))))
    (λ own right told blamed it. told.1.1 blamed (it.0, it.1.students_rise))

pub returns : goal.returns
returns g c =
    reads_more tt (reads_then c.in_ok-lecturers.ensures
    (reads_open (reads_then c.in_ok-projects.ensures (reads_open c.in_ok-students.ensures))))
    (λ own right told. record { lecturers_are = told.0; projects_are = told.1.0; students_are = told.1.1 })
