use Rattle.portal_reports.proofs.Base.{◌++◌, ◌∙◌, codes, append_assoc, refl, ap, styled_text, styled_decimal, said}
use Rattle.portal_reports.proofs.Padding.{left-at, right-is}
use Rattle.portal_reports.proofs.lines.project_line.Goals as goal

pub returns : goal.returns
returns c =
    let key = left-at _ c.short-key.result.now _
    (ap (λ o. styled_text o c.short-key.result.now) c.laid_out.ensures) c.short-key.ensures.text c.short-key.ensures.short in
    let students = ap (λ s. styled_decimal s c.args.students) c.laid_out-2.ensures ∙ right-is 4 c.args.students refl in
    let capacity = ap (λ s. styled_decimal s c.args.project.now.capacity) c.laid_out-3.ensures
    ∙ right-is 4 c.args.project.now.capacity refl in
    said c.format.result (styled_text c.laid_out.result c.short-key.result.now ++ (styled_decimal c.laid_out-2.result c.args.students
    ++ (codes " of " ++ (styled_decimal c.laid_out-3.result c.args.project.now.capacity ++ codes "\n")))) _ c.format.ensures.ok
    ((λ i. key i ++ (students i ++ (codes " of " ++ (capacity i ++ codes "\n")))) ∙ simp append_assoc)
