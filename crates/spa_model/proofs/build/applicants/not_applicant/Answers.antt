use Rattle.spa_model.proofs.Base.{◌≡◌, ◌↔◌, IsTrue, ℕ, [], Any, sym, ap, arith, map_at, least_step, least_all}
use Rattle.spa_model.proofs.Base.{IsApplicantNumber, numbers_at}
use Rattle.spa_rows.specs.Lines
use Rattle.spa_model.proofs.build.applicants.not_applicant.Goals as goal

pub loop-number-preserved : goal.loop-number-preserved
loop-number-preserved c =
    let Bad : ℕ → Lines.LecturerWithList → Type 0 =
    λ l _. Any (λ n. IsApplicantNumber c.args.students.now c.args.projects.now l n → ⊥) (numbers_at c.args.rankings.now l) in
    let here : numbers_at c.args.rankings.now c.loop-number.number
    ≡ c.index-rankings-number.result.items =
    map_at (λ own. own.items) c.args.rankings.now c.loop-number.number c.index-rankings-number.result [] (omega arith)
    (sym c.index-rankings-number.is) in
    let tells : IsTrue c.lists_other-is_bad.result
    ↔ Bad c.loop-number.number c.index-lecturers-number.result = rw (here, ← c.deref.ensures.value) c.lists_other-is_bad.ensures in
    least_step c.args.lecturers.now (λ x. x.row) Bad c.loop-number.number c.index-lecturers-number.result c.loop-number.best _ _ _
    c.least_with-best.ensures (ap (λ x. x.row) c.lecturer.view_is) c.loop-number-test.true
    (sym c.index-lecturers-number.is) tells c.loop-number.invariant

pub returns : goal.returns
returns c = least_all c.args.lecturers.now (λ x. x.row)
    (λ l _. Any (λ n. IsApplicantNumber c.args.students.now c.args.projects.now l n → ⊥) (numbers_at c.args.rankings.now l))
    c.loop-number.number c.loop-number.best (omega arith) c.loop-number.invariant
