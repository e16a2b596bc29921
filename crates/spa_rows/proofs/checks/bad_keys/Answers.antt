use Rattle.spa_rows.proofs.Base.{◌≡◌, false, ◌∙◌, ap, is_key, rules}
use Rattle.spa_rows.proofs.LeastRow.{least_either, told_least}
use Rattle.spa_rows.proofs.checks.bad_keys.Goals as goal

pub returns : goal.returns
returns c =
    rw (c.smaller_row-2.ensures, c.smaller_row.ensures) (least_either _ _ _ _
    (told_least _ _ _ _ (λ x. is_key x.key ≡ false) _ c.least_where-lecturer.ensures
    (c.deref.ensures.value ∙ ap (λ x. x.lecturers) c.rows.view_is) (λ x b said. search rules))
    (least_either _ _ _ _
    (told_least _ _ _ _ (λ x. is_key x.key ≡ false) _ c.least_where-project.ensures
    (c.deref-2.ensures.value ∙ ap (λ x. x.projects) c.rows.view_is) (λ x b said. search rules))
    (told_least _ _ _ _ (λ x. is_key x.key ≡ false) _ c.least_where-student.ensures
    (c.deref-3.ensures.value ∙ ap (λ x. x.students) c.rows.view_is) (λ x b said. search rules))))
