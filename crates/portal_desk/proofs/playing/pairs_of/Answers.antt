use Rattle.portal_desk.proofs.Base.{◌∙◌, arith, sym}
use Rattle.portal_desk.proofs.Pairs.{none_more, one_more}
use Rattle.portal_desk.proofs.playing.pairs_of.Goals as goal
use Rattle.portal_desk.proofs.playing.pairs_of.Goals.{in-Some+in_ok-student+in_ok-project+in_ok-push, in_default}

pub loop-s-preserved : goal.loop-s-preserved
loop-s-preserved c = elim c.match-project_of.branch [
  | in-Some+in_ok-student+in_ok-project+in_ok-push w ↦
      rw (
        w.pairs-is,
        w.in_ok-push.ensures.items,
        w.in_ok-student.ensures ∙ w.student_key.ensures,
        w.in_ok-project.ensures
            ∙ w.project_key.ensures,
      )
      (one_more c.args.instance.now.student_keys c.args.instance.now.project_keys c.args.matching.now c.loop-s.s w.in-Some.p
      c.loop-s.pairs.items _
      (omega (arith, c.students-s-end.ensures.lawful.student_rows)) (omega (arith, c.requires.students))
      (sym w.in-Some.is ∙ c.project_of.ensures.gives) c.loop-s.invariant)
  | in_default w ↦ rw w.pairs-is (none_more c.args.instance.now.student_keys c.args.instance.now.project_keys c.args.matching.now c.loop-s.s
      c.loop-s.pairs.items _
      (omega (arith, c.students-s-end.ensures.lawful.student_rows)) (omega (arith, c.requires.students))
      (sym w.in_default.is ∙ c.project_of.ensures.gives) c.loop-s.invariant)
]
