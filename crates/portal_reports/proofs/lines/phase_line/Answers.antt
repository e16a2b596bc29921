use Rattle.portal_reports.proofs.Base.{◌++◌, ◌∙◌, codes, append_assoc, sym, refl, ap, styled_text, padded_left, said}
use Rattle.portal_rules.specs.World.{phase_word}
use Rattle.portal_reports.specs.Status.{phase_line}
use Rattle.portal_reports.proofs.Padding.{left-is}
use Rattle.portal_reports.proofs.lines.phase_line.Goals as goal

pub returns : goal.returns
unfolding phase_line
returns c =
    said c.format.result (styled_text c.laid_out.result (codes "phase") ++ (c.word.result.now ++ codes "\n")) _ c.format.ensures.ok
    ((λ i. styled_text (c.laid_out.ensures i) (codes "phase") ++ (c.word.ensures i ++ codes "\n"))
    ∙ (ap (λ xs. xs ++ (phase_word c.args.phase ++ codes "\n")) (left-is (codes "phase") refl)
    ∙ sym (append_assoc (padded_left 16 (codes "phase")) (phase_word c.args.phase) (codes "\n"))))
