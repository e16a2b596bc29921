use Rattle.portal_list.proofs.Base.{◌≡◌, false, get_or, length, subst, sym, ap, ◌∙◌, arith, ◌||◌, or-false, is_among}
use Rattle.portal_list.proofs.Base.{is_noted_in, IsApplicantIndex, length-replicate, with_items_is}
use Rattle.portal_list.proofs.Noted.{passes_never, wanted_more, none_marked}
use Rattle.portal_list.proofs.applicant_index.ApplicantIndex.marks.Goals as goal
use Rattle.portal_list.proofs.applicant_index.ApplicantIndex.marks.Goals.{in-Some, in_default}

pub loop-project-init : goal.loop-project-init
loop-project-init c =
    let fresh = c.in_ok-marks.ensures.items_if_clones_equal (λ y e. e) in
    record {
      len = ap length fresh ∙ length-replicate (length c.self.inside.students.now) false ∙ ap length c.self.view_is;
      marks = λ i low. ap (λ ms. get_or ms i false) fresh ∙ none_marked _ i ∙ sym (passes_never c.args.self.now i);
    }

pub loop-project-preserved : goal.loop-project-preserved
loop-project-preserved c =
    let j = c.loop-project.project-index in
    let wanted : IsApplicantIndex c.args.self.now c.self.inside.places =
    subst (λ ss. IsApplicantIndex ss c.self.inside.places) c.self.view_is c.self.invariant in
    let more = wanted_more c.args.self.now c.self.inside.places wanted c.args.projects.now j c.project-item.result c.as_bytes.result
    c.loop-project-test.true (sym c.project-item.is) c.as_bytes.ensures.bytes in
    elim c.match-get.branch [
      | in-Some w ↦
          let long : length w.deref_mut.result.now ≡ length c.args.self.now = ap length w.deref_mut.ensures.value
          ∙ c.loop-project.invariant.len in
          let marked : c.match-get.marks.items ≡ w.mark.new.marks
          = ap (λ v. v.items) w.marks-is ∙ with_items_is c.loop-project.marks w.mark.new.marks
          (w.mark.ensures.len ∙ w.deref_mut.ensures.len) in
          record {
            len = ap length marked ∙ w.mark.ensures.len ∙ long;
            marks = λ i low.
                more i (get_or c.loop-project.marks.items i false) _ (c.loop-project.invariant.marks i low)
                (ap (λ ms. get_or ms i false) marked ∙ w.mark.ensures.marks i (omega (arith, long))
                ∙ (λ k. get_or (w.deref_mut.ensures.value k) i false || is_among (w.deref.ensures.value k) i)
                ∙ ap (λ o. get_or c.loop-project.marks.items i false || is_noted_in o i) w.in-Some.ensures.value);
          }
      | in_default w ↦ record {
        len = ap (λ v. length v.items) w.marks-is ∙ c.loop-project.invariant.len;
        marks = λ i low.
            more i (get_or c.loop-project.marks.items i false) _ (c.loop-project.invariant.marks i low)
            (ap (λ v. get_or v.items i false) w.marks-is ∙ sym (or-false (get_or c.loop-project.marks.items i false))
            ∙ ap (λ o. get_or c.loop-project.marks.items i false || is_noted_in o i) w.in_default.ensures.value);
      }
    ]
