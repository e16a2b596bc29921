use Rattle.spa_model.proofs.Base.{arith, subst, take_all, AllZip, AreNumbers, IsLecturerOf}
use Rattle.spa_model.proofs.Zips.{zip_at, zip_more}
use Rattle.spa_model.proofs.build.numbers.number_lecturers.Goals as goal

pub loop-place-preserved : goal.loop-place-preserved
loop-place-preserved c = λ keys long are.
    let own : AreNumbers keys c.index-lines-place.result.list c.index-rankings-place.result.items =
    rw (← c.index-rankings-place.is, ← c.index-lines-place.is) at
    (zip_at (λ x own. AreNumbers keys x.list own.items) c.args.lines.now c.args.rankings.now c.loop-place.place
    c.index-lines-place.result c.index-rankings-place.result c.loop-place-test.true are) in
    let one : IsLecturerOf keys c.index-lines-place.result c.in_ok-lecturer.lecturer =
    c.in_ok-lecturer.ensures keys long (rw c.deref.ensures.value own) in
    rw c.in_ok-push.ensures.items (zip_more (IsLecturerOf keys) c.args.lines.now c.loop-place.lecturers.items c.loop-place.place
    c.index-lines-place.result c.in_ok-lecturer.lecturer c.loop-place-test.true c.index-lines-place.is
    (c.loop-place.invariant keys long are) one)

pub returns : goal.returns
returns c = λ keys long are. subst (λ lines. AllZip (IsLecturerOf keys) lines c.loop-place.lecturers.items)
    (take_all c.loop-place.place c.args.lines.now (omega arith)) (c.loop-place.invariant keys long are)
