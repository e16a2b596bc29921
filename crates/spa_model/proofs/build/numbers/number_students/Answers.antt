use Rattle.spa_model.proofs.Base.{arith, subst, take_all, AllZip, AreNumbers, IsStudentOf}
use Rattle.spa_model.proofs.Zips.{zip_at, zip_more}
use Rattle.spa_model.proofs.build.numbers.number_students.Goals as goal

pub loop-place-preserved : goal.loop-place-preserved
loop-place-preserved c = λ keys are.
    let own : AreNumbers keys c.index-lines-place.result.list c.index-choices-place.result.items =
    rw (← c.index-choices-place.is, ← c.index-lines-place.is) at
    (zip_at (λ x own. AreNumbers keys x.list own.items) c.args.lines.now c.args.choices.now c.loop-place.place
    c.index-lines-place.result c.index-choices-place.result c.loop-place-test.true are) in
    let one : IsStudentOf keys c.index-lines-place.result c.in_ok-student.student =
    c.in_ok-student.ensures keys (rw c.deref.ensures.value own) in
    rw c.in_ok-push.ensures.items (zip_more (IsStudentOf keys) c.args.lines.now c.loop-place.students.items c.loop-place.place
    c.index-lines-place.result c.in_ok-student.student c.loop-place-test.true c.index-lines-place.is
    (c.loop-place.invariant keys are) one)

pub returns : goal.returns
returns c = λ keys are. subst (λ lines. AllZip (IsStudentOf keys) lines c.loop-place.students.items)
    (take_all c.loop-place.place c.args.lines.now (omega arith)) (c.loop-place.invariant keys are)
