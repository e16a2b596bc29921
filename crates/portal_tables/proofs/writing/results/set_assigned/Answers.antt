use Rattle.portal_tables.proofs.Base.{◌∷◌, option_map, [], ap, subst, ◌∙◌, Text, bound_value, Does, Made, Ran, Assigns}
use Rattle.portal_tables.proofs.Runs.{does_more}
use Rattle.portal_tables.proofs.Assigning.{one_assigned, update_one, assigned_bound}
use Rattle.portal_tables.proofs.writing.results.set_assigned.Goals as goal

pub returns : goal.returns
returns g c =
    let student = c.a.inside.student.now in
    let project = option_map (λ p. p.now) c.a.inside.project in
    subst (λ it. Does g.S.Store (Made (Assigns (it ∷ []))) c.write.result c.args.tx.now c.write.new.tx) c.a.view_is
    (does_more g.S.Store _ _ _ _ _
    (subst (λ v. Does g.S.Store (Ran update_one (Text student ∷ v ∷ [])) c.write.result c.args.tx.now c.write.new.tx)
    (ap bound_value c.text_or_null.ensures ∙ assigned_bound project) c.write.ensures)
    (one_assigned student project _ _))
