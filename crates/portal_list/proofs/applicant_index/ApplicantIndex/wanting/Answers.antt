use Rattle.portal_list.proofs.Base.{◌≡◌, ◌<◌, false, [], ◌∷◌, ◌++◌, List, Bool, map, length, get_or, subst, sym, ◌∙◌}
use Rattle.portal_list.proofs.Base.{ap, arith, list_any, map_push, get_or_default, Key, has, Student, student_key}
use Rattle.portal_list.proofs.Noted.{passes_here}
use Rattle.portal_rules.proofs.Growing.{kept_more, left_more}
use Rattle.portal_list.proofs.applicant_index.ApplicantIndex.wanting.Goals as goal
use Rattle.portal_list.proofs.applicant_index.ApplicantIndex.wanting.Goals.{then-index+in_ok-push, else-index}

pub loop-i-preserved : goal.loop-i-preserved
loop-i-preserved c =
    let own : List Key = map (λ k. k.now) c.args.projects.now in
    let wants : Student → Bool = λ s. list_any (λ p. has s.choice p) own in
    let student : Student = c.student-item.result in
    let i = c.loop-i.i in
    let low : i < length c.args.self.now = subst (λ (ss : List Student). i < length ss) c.self.view_is c.loop-i-test.true in
    let at : get_or c.args.self.now i student
    ≡ student = sym (c.student-item.is ∙ ap (λ (ss : List Student). get_or ss i student) c.self.view_is) in
    let test : c.index.result.now ≡ wants student
    = c.index.ensures ∙ get_or_default c.in_ok-marks.marks.items i _ false (omega (arith, c.in_ok-marks.ensures.len))
    ∙ c.in_ok-marks.ensures.marks i low ∙ passes_here wants c.args.self.now i student low at in
    elim c.if-index.branch [
      | then-index+in_ok-push w ↦
          ap (λ v. map (λ k. k.now) v.items) w.keys-is
          ∙ ap (map (λ k. k.now)) w.in_ok-push.ensures.items
          ∙ map_push (λ k. k.now) c.loop-i.keys.items _
          ∙ (λ j. c.loop-i.invariant j ++ (c.student.view_is j).row.key ∷ [])
          ∙ sym (kept_more wants student_key c.args.self.now i student low at (sym test ∙ w.if-index.true))
      | else-index w ↦
          ap (λ v. map (λ k. k.now) v.items) w.keys-is
          ∙ c.loop-i.invariant
          ∙ sym (left_more wants student_key c.args.self.now i student low at (sym test ∙ w.if-index.false))
    ]
