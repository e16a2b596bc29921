use Rattle.spa_rows.proofs.Base.{◌≡◌, ◌⊎◌, sym, ◌∙◌, ap, BadLecturer, BadProject, BadStudent, IsEarlierKey, IsLeastOf}
use Rattle.spa_rows.proofs.LeastRow.{least_either}
use Rattle.spa_rows.proofs.checks.keys_twice.Goals as goal

pub returns : goal.returns
returns c =
    let rows = c.args.rows.now in
    let lecturers : c.deref.result.now ≡ c.args.rows.now.lecturers = c.deref.ensures.value ∙ ap (λ x. x.lecturers) c.rows.view_is in
    let projects : c.deref-2.result.now ≡ c.args.rows.now.projects = c.deref-2.ensures.value ∙ ap (λ x. x.projects) c.rows.view_is in
    let students : c.deref-3.result.now ≡ c.args.rows.now.students = c.deref-3.ensures.value ∙ ap (λ x. x.students) c.rows.view_is in
    let first : IsLeastOf (BadLecturer rows (λ j x. IsEarlierKey rows.lecturers (λ y. y.key) j x.key)) c.in_ok-lecturer.lecturer =
    rw (sym lecturers) c.in_ok-lecturer.ensures in
    let second : IsLeastOf (BadProject rows (λ j x. IsEarlierKey rows.projects (λ y. y.key) j x.key)) c.in_ok-project.project =
    rw (sym projects) c.in_ok-project.ensures in
    let third : IsLeastOf (BadStudent rows (λ j x. IsEarlierKey rows.students (λ y. y.key) j x.key)) c.in_ok-student.student =
    rw (sym students) c.in_ok-student.ensures in
    let later = least_either (BadProject rows (λ j x. IsEarlierKey rows.projects (λ y. y.key) j x.key))
    (BadStudent rows (λ j x. IsEarlierKey rows.students (λ y. y.key) j x.key)) _ _ second third in
    rw (c.smaller_row-2.ensures, c.smaller_row.ensures)
    (least_either (BadLecturer rows (λ j x. IsEarlierKey rows.lecturers (λ y. y.key) j x.key))
    (λ r. BadProject rows (λ j x. IsEarlierKey rows.projects (λ y. y.key) j x.key) r
    ⊎ BadStudent rows (λ j x. IsEarlierKey rows.students (λ y. y.key) j x.key) r) _ _ first later)
