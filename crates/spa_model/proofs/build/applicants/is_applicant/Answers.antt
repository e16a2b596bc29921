use Rattle.spa_model.proofs.Base.{◌≡◌, ◌↔◌, IsTrue, arith, choices_at, Finds}
use Rattle.spa_model.proofs.Applicants.{choices_here}
use Rattle.spa_model.proofs.build.applicants.is_applicant.Goals as goal

pub returns : goal.returns
returns c =
    let here : choices_at c.args.students.now c.args.number
    ≡ c.index-students-number.result.choices.items =
    choices_here c.args.students.now c.args.number c.index-students-number.result (omega arith) c.index-students-number.is in
    let iff : IsTrue c.finds.result ↔ Finds c.args.projects.now (choices_at c.args.students.now c.args.number) c.args.lecturer =
    rw (here, ← c.deref.ensures.value) c.finds.ensures in
    (λ yes. (omega arith, iff.0 yes), λ is. iff.1 is.1)
