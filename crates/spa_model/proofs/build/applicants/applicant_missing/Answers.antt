use Rattle.spa_model.proofs.Base.{◌≡◌, None, Some, length, subst, arith, IsLeastOf, choices_at, Misses, MissesBelow}
use Rattle.spa_model.proofs.Applicants.{choices_here, misses_more}
use Rattle.spa_model.proofs.build.applicants.applicant_missing.Goals as goal
use Rattle.spa_model.proofs.build.applicants.applicant_missing.Goals.{in-Some, in_default}

pub loop-number-preserved : goal.loop-number-preserved
loop-number-preserved c =
    let here : choices_at c.args.students.now c.loop-number.number
    ≡ c.index-students-number.result.choices.items =
    choices_here c.args.students.now c.loop-number.number c.index-students-number.result c.loop-number-test.true
    c.index-students-number.is in
    let one : IsLeastOf (Misses c.args.lines.now c.args.lecturers.now c.args.projects.now (choices_at c.args.students.now c.loop-number.number) c.loop-number.number) c.misses.result = rw (here, ← c.deref.ensures.value) c.misses.ensures in
    elim c.match-misses.branch [
      | in-Some w ↦ rw (w.best-is, w.least_with-best.ensures)
          (misses_more c.args.lines.now c.args.lecturers.now c.args.projects.now c.args.students.now c.loop-number.number c.loop-number.best
          (Some w.in-Some.row) c.loop-number.invariant (rw w.in-Some.is at one))
      | in_default w ↦ rw w.best-is (misses_more c.args.lines.now c.args.lecturers.now c.args.projects.now c.args.students.now
          c.loop-number.number c.loop-number.best None c.loop-number.invariant (rw w.in_default.is at one))
    ]

pub returns : goal.returns
returns c =
    let done : c.loop-number.number ≡ length c.args.students.now = omega arith in
    subst (λ n. IsLeastOf (MissesBelow c.args.lines.now c.args.lecturers.now c.args.projects.now c.args.students.now n) c.loop-number.best)
    done c.loop-number.invariant
