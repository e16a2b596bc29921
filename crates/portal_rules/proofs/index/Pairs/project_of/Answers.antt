use Rattle.portal_rules.proofs.Base.{option_map, ap, sym, ◌∙◌, placement_in}
use Rattle.portal_rules.proofs.Tables.{looked_up}
use Rattle.portal_rules.proofs.index.Pairs.project_of.Goals as goal

pub returns-in_err-project : goal.returns-in_err-project
returns-in_err-project c =
    ap (option_map (λ key. key.now)) c.from_residual.ensures
    ∙ looked_up c.self.inside.pairs.now c.self.inside.by_student c.self.invariant c.args.student _
    (sym c.in_err-project.was ∙ c.row_at.ensures)
    ∙ ap (λ pairs. placement_in pairs c.args.student.now) c.self.view_is

pub returns : goal.returns
returns c =
    looked_up c.self.inside.pairs.now c.self.inside.by_student c.self.invariant c.args.student _
    (sym c.in_ok-project.was ∙ c.row_at.ensures)
    ∙ ap (λ pairs. placement_in pairs c.args.student.now) c.self.view_is
