use Rattle.portal_list.proofs.Base.{◌≡◌, ap, ◌∙◌, Some, None, find, equals, Lecturer, Student, AllEntries, entries_in}
use Rattle.portal_list.proofs.Base.{lecturer_with, student_with, caller_among, sight_of}
use Rattle.portal_rules.specs.declared.view.View.TheVariants as views
use Rattle.portal_list.proofs.keeper.ListKeeper.shown_to_member.Goals as goal

pub returns-in_ok-student_view-in-Some-student_with :
    goal.returns-in_ok-student_view-in-Some-student_with
returns-in_ok-student_view-in-Some-student_with c =
    let w = c.args.self.now in
    let code = c.args.code.now in
    let there = ap (λ k. k.entries) c.self-inside.view_is ∙ ap entries_in c.self.view_is in
    let none : None ≡ lecturer_with w code = c.in_default.ensures
    ∙ ap (find (λ (l : Lecturer). equals l.row.code code)) (c.deref.ensures.value ∙ ap (λ (a : AllEntries). a.lecturers) there) in
    let found : Some c.in-Some-student_with.student.now ≡ student_with w code
    = c.in-Some-student_with.ensures ∙ ap (find (λ (s : Student). equals s.row.code code))
    (c.deref-2.ensures.value ∙ ap (λ (a : AllEntries). a.students) there) in
    ap views.Student c.in_ok-student_view-in-Some-student_with.ensures ∙ (λ i. sight_of w (caller_among (none i) (found i)))
