use Rattle.spa_rows.proofs.Base.{◌∙◌, ap, IsBadCapacity, rules}
use Rattle.spa_rows.proofs.LeastRow.{least_either, told_least}
use Rattle.spa_rows.proofs.checks.bad_capacities.Goals as goal

pub returns : goal.returns
returns c =
    rw c.smaller_row.ensures (least_either _ _ _ _
    (told_least _ _ _ _ (λ x. IsBadCapacity x.capacity) _ c.least_where-lecturer.ensures
    (c.deref.ensures.value ∙ ap (λ x. x.lecturers) c.rows.view_is) (λ x b said. search rules))
    (told_least _ _ _ _ (λ x. IsBadCapacity x.capacity) _ c.least_where-project.ensures
    (c.deref-2.ensures.value ∙ ap (λ x. x.projects) c.rows.view_is) (λ x b said. search rules)))
