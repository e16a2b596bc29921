use Rattle.portal_reports.proofs.Base.{◌++◌, ◌∙◌, codes, decimal, append_assoc, sym, refl, styled_text, styled_decimal}
use Rattle.portal_reports.proofs.Base.{padded_left, padded_right, number_line, said}
use Rattle.portal_reports.proofs.Padding.{left-is, right-is}
use Rattle.portal_reports.proofs.lines.number_line.Goals as goal

pub returns : goal.returns
unfolding number_line
returns c =
    let label = c.args.label.now in
    let n = c.args.number in
    said c.format.result (styled_text c.laid_out.result label ++ (styled_decimal c.laid_out-2.result n ++ codes "\n")) _ c.format.ensures.ok
    ((λ i. styled_text (c.laid_out.ensures i) label ++ (styled_decimal (c.laid_out-2.ensures i) n ++ codes "\n"))
    ∙ ((λ i. left-is label c.requires i ++ (right-is 6 n refl i ++ codes "\n"))
    ∙ sym (append_assoc (padded_left 16 label) (padded_right 6 (decimal n)) (codes "\n"))))
