use Rattle.portal_list.proofs.Base.{ℕ, get_or, false, ap, ◌∙◌, arith, get_or_default}
use Rattle.portal_list.proofs.Noted.{marked, unmarked, marks_more}
use Rattle.portal_list.proofs.applicant_index.mark.Goals as goal
use Rattle.portal_list.proofs.applicant_index.mark.Goals.{then-place-marks, else-place-marks}

pub loop-place-preserved : goal.loop-place-preserved
loop-place-preserved c =
    let j = c.loop-place.place-index in
    let k : ℕ = get_or c.args.places.now j 0 in
    let at = get_or_default c.args.places.now j k 0 c.loop-place-test.true in
    elim c.if-place-marks.branch [
      | then-place-marks w ↦ record {
        len = c.if-place-marks.auto.marks ∙ c.loop-place.invariant.len;
        marks = λ i low.
            marks_more c.args.places.now j k i (get_or c.args.marks.now i false) _ _ (c.loop-place.invariant.marks i low)
            (ap (λ ms. get_or ms i false) w.marks-is ∙ marked c.loop-place.marks k i w.if-place-marks.true) c.loop-place-test.true at;
      }
      | else-place-marks w ↦ record {
        len = c.if-place-marks.auto.marks ∙ c.loop-place.invariant.len;
        marks = λ i low.
            marks_more c.args.places.now j k i (get_or c.args.marks.now i false) _ _ (c.loop-place.invariant.marks i low)
            (ap (λ ms. get_or ms i false) w.marks-is
            ∙ unmarked c.loop-place.marks k i w.if-place-marks.false (omega (arith, c.loop-place.invariant.len)))
            c.loop-place-test.true at;
      }
    ]
