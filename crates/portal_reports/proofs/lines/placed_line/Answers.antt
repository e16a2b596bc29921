use Rattle.portal_reports.proofs.Base.{◌++◌, ◌∙◌, codes, append_assoc, ap, styled_text, said}
use Rattle.portal_reports.proofs.Padding.{left-at}
use Rattle.portal_reports.proofs.lines.placed_line.Goals as goal

pub returns : goal.returns
returns c =
    let key = left-at _ c.short-key.result.now _
    (ap (λ o. styled_text o c.short-key.result.now) c.laid_out.ensures) c.short-key.ensures.text c.short-key.ensures.short in
    let place = left-at _ c.short-place.result.now _
    (ap (λ o. styled_text o c.short-place.result.now) c.laid_out-2.ensures) c.short-place.ensures.text c.short-place.ensures.short in
    said c.format.result (styled_text c.laid_out.result c.short-key.result.now
    ++ (codes "  " ++ (styled_text c.laid_out-2.result c.short-place.result.now
    ++ (codes "  " ++ (c.as_str.result.now ++ codes "\n"))))) _ c.format.ensures.ok
    ((λ i. key i ++ (codes "  " ++ (place i ++ (codes "  " ++ (c.as_str.ensures i ++ codes "\n"))))) ∙ simp append_assoc)
