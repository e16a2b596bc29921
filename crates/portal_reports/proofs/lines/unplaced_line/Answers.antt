use Rattle.portal_reports.proofs.Base.{◌++◌, ◌∙◌, codes, append_assoc, ap, styled_text, said}
use Rattle.portal_reports.proofs.Padding.{left-at}
use Rattle.portal_reports.proofs.lines.unplaced_line.Goals as goal

pub returns : goal.returns
returns c =
    let key = left-at _ c.short-key.result.now _
    (ap (λ o. styled_text o c.short-key.result.now) c.laid_out.ensures) c.short-key.ensures.text c.short-key.ensures.short in
    said c.format.result (styled_text c.laid_out.result c.short-key.result.now ++ codes "  (none)\n") _ c.format.ensures.ok
    (ap (λ xs. xs ++ codes "  (none)\n") key ∙ simp append_assoc)
