use Rattle.portal_rules.proofs.Base.{ap, ◌∙◌, OfficeSees, placement_in}
use Rattle.portal_rules.proofs.Tables.{is_placed}
use Rattle.portal_rules.proofs.index.Placings.is_placed.Goals as goal

pub returns : goal.returns
returns c =
    c.is_some.ensures
    ∙ is_placed c.args.self.now.pairs c.args.student.now.key c.project_of.result
    (c.project_of.ensures ∙ ap (placement_in c.self.inside.pairs) c.as_bytes.ensures.bytes
    ∙ ap (λ pairs. placement_in pairs c.args.student.now.key) (c.self.invariant.0 ∙ ap (λ (v : OfficeSees). v.pairs) c.self.view_is))
