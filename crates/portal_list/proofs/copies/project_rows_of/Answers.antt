use Rattle.portal_list.proofs.Base.{IfOk-weaker, rules, ◌∙◌}
use Rattle.std.proofs.lemmas.List.{map-id}
use Rattle.portal_list.proofs.copies.project_rows_of.Goals as goal

pub returns : goal.returns
returns c = IfOk-weaker c.try_map.result _ _ (λ v made. made (λ row. row) (λ x y h. search rules) ∙ map-id _) c.try_map.ensures
