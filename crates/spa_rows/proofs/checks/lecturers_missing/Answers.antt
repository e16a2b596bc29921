use Rattle.spa_rows.proofs.Base.{◌∙◌, ap, IsKeyOf, rules}
use Rattle.spa_rows.proofs.Deciding.{not_iff}
use Rattle.spa_rows.proofs.LeastRow.{told_least}
use Rattle.spa_rows.proofs.checks.lecturers_missing.Goals as goal

pub returns : goal.returns
returns c = rw (← (c.in_ok-lecturers.ensures ∙ c.deref.ensures.value ∙ ap (λ x. x.lecturers) c.rows.view_is))
    (told_least _ _ _ _ (λ x. IsKeyOf c.in_ok-lecturers.lecturers (λ y. y.key) x.lecturer → ⊥) _ c.least_where.ensures
    (c.deref-2.ensures.value ∙ ap (λ x. x.projects) c.rows.view_is) (λ x b said. search (rules, not_iff, said)))
