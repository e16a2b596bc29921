use Rattle.spa_rows.proofs.Base.{◌≡◌, length, ap, ◌∙◌, arith, AllZip-long, HaveNumbers, IsLeastOf, BadAt, Repeats}
use Rattle.spa_rows.proofs.LeastRow.{least_either}
use Rattle.spa_rows.proofs.Numbers.{below_count, lists_differ, students_apart, projects_apart}
use Rattle.spa_rows.proofs.checks.repeats_in_lists.Goals as goal

pub repeat_in_list-requires-clause-length : goal.repeat_in_list-requires-clause-length
repeat_in_list-requires-clause-length c =
    let owners : c.deref.result.now ≡ c.args.rows.now.lecturers = c.deref.ensures.value ∙ ap (λ x. x.lecturers) c.rows.view_is in
    rw owners (AllZip-long (λ x own. HaveNumbers c.args.rows.now.students (λ y. y.key) x.list own.items) c.args.rows.now.lecturers
    c.args.rankings.now c.requires.rankings)

pub repeat_in_list-requires-clause-below : goal.repeat_in_list-requires-clause-below
repeat_in_list-requires-clause-below c =
    let count : c.len.result ≡ length c.args.rows.now.students = omega (arith, ap (λ x. length x.students) c.rows.view_is) in
    rw count (below_count c.args.rows.now.students (λ y. y.key) c.args.rows.now.lecturers
    (λ x. x.list) c.args.rankings.now c.requires.rankings)

pub repeat_in_list-requires-clause-apart : goal.repeat_in_list-requires-clause-apart
repeat_in_list-requires-clause-apart c =
    let owners : c.deref.result.now ≡ c.args.rows.now.lecturers = c.deref.ensures.value ∙ ap (λ x. x.lecturers) c.rows.view_is in
    rw owners (lists_differ c.args.rows.now.students (λ y. y.key) c.args.rows.now.lecturers
    (λ x. x.list) c.args.rankings.now c.requires.rankings (students_apart c.args.rows.now c.requires.faultless))

pub repeat_in_list-requires-2-clause-length : goal.repeat_in_list-requires-2-clause-length
repeat_in_list-requires-2-clause-length c =
    let owners : c.deref-2.result.now ≡ c.args.rows.now.students = c.deref-2.ensures.value ∙ ap (λ x. x.students) c.rows.view_is in
    rw owners (AllZip-long (λ x own. HaveNumbers c.args.rows.now.projects (λ y. y.key) x.list own.items) c.args.rows.now.students
    c.args.choices.now c.requires.choices)

pub repeat_in_list-requires-2-clause-below : goal.repeat_in_list-requires-2-clause-below
repeat_in_list-requires-2-clause-below c =
    let count : c.len-2.result ≡ length c.args.rows.now.projects = omega (arith, ap (λ x. length x.projects) c.rows.view_is) in
    rw count (below_count c.args.rows.now.projects (λ y. y.key) c.args.rows.now.students
    (λ x. x.list) c.args.choices.now c.requires.choices)

pub repeat_in_list-requires-2-clause-apart : goal.repeat_in_list-requires-2-clause-apart
repeat_in_list-requires-2-clause-apart c =
    let owners : c.deref-2.result.now ≡ c.args.rows.now.students = c.deref-2.ensures.value ∙ ap (λ x. x.students) c.rows.view_is in
    rw owners (lists_differ c.args.rows.now.projects (λ y. y.key) c.args.rows.now.students
    (λ x. x.list) c.args.choices.now c.requires.choices (projects_apart c.args.rows.now c.requires.faultless))

pub returns : goal.returns
returns c =
    let rows = c.args.rows.now in
    let lecturers : c.deref.result.now ≡ rows.lecturers = c.deref.ensures.value ∙ ap (λ x. x.lecturers) c.rows.view_is in
    let students : c.deref-2.result.now ≡ rows.students = c.deref-2.ensures.value ∙ ap (λ x. x.students) c.rows.view_is in
    let lecturer : IsLeastOf (BadAt rows.lecturers (λ x. x.row) (λ _ x. Repeats x.list)) c.in_ok-lecturer.lecturer =
    rw (← lecturers) c.in_ok-lecturer.ensures in
    let student : IsLeastOf (BadAt rows.students (λ x. x.row) (λ _ x. Repeats x.list)) c.in_ok-student.student =
    rw (← students) c.in_ok-student.ensures in
    rw c.smaller_row.ensures (least_either _ _ _ _ lecturer student)
