use Rattle.portal_reports.proofs.Base.{◌≡◌, ◌<◌, ◌++◌, ◌∙◌, List, length, ap, Vec, Global, get_or, subst, one_more, student_line}
use Rattle.portal_rules.specs.Calls.{OfficeSees}
use Rattle.portal_rules.specs.declared.rows.StudentRow.{StudentRow}
use Rattle.portal_reports.proofs.allocation.put_students.Goals as goal

pub loop-student-preserved : goal.loop-student-preserved
loop-student-preserved c =
    let v = c.args.view.now in
    let i = c.loop-student.student-index in
    let s = c.student-item.result in
    let items : c.deref-student-items.result.now ≡ v.students = c.deref-student-items.ensures.value
    ∙ ap (λ (shared : Vec StudentRow Global). shared.items) c.deref.ensures ∙ ap (λ w. w.students) c.view.view_is in
    let inside : i < length v.students = subst (λ xs. i < length xs) items c.loop-student-test.true in
    let here : s ≡ get_or v.students i s = subst (λ (xs : List StudentRow). s ≡ get_or xs i s) items c.student-item.is in
    c.in_ok-put_student.ensures ∙ (ap (λ (p : OfficeSees). c.loop-student.text.items ++ student_line p s) c.in_ok-placings.ensures
    ∙ ((λ j. c.loop-student.invariant j ++ student_line v s) ∙ one_more (student_line v) c.args.text.now.items v.students i s inside here))
