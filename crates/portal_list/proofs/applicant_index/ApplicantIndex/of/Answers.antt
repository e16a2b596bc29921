use Rattle.portal_list.proofs.Base.{◌≡◌, sym, ap, ◌∙◌, ◌==◌, ◌||◌, ◌&&◌, has, Student}
use Rattle.portal_list.proofs.Noted.{passes_more}
use Rattle.portal_list.proofs.applicant_index.ApplicantIndex.of.Goals as goal

pub loop-place-preserved : goal.loop-place-preserved
loop-place-preserved c = λ q i.
    let n = c.loop-place.place in
    let student : Student = c.index-students-place.result in
    let choice_is : c.deref.result.now ≡ student.choice = c.deref.ensures.value ∙ ap (λ s. s.choice) c.student.view_is in
    c.in_ok-note_all.ensures q i
    ∙ (λ j. c.loop-place.invariant q i j || (has (choice_is j) q.now && (n == i)))
    ∙ sym (passes_more (λ s. has s.choice q.now) c.args.students.now n student i c.loop-place-test.true (sym c.index-students-place.is))
