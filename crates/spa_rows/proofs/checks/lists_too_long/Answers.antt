use Rattle.spa_rows.proofs.Base.{◌<◌, length, ◌∙◌, ap, length-map, rules, longest_choice}
use Rattle.spa_rows.proofs.Deciding.{over_iff}
use Rattle.spa_rows.proofs.LeastRow.{told_least}
use Rattle.spa_rows.proofs.checks.lists_too_long.Goals as goal

pub returns : goal.returns
returns c = told_least _ _ _ _ (λ x. longest_choice < length x.list) _ c.least_where.ensures
    (c.deref.ensures.value ∙ ap (λ x. x.students) c.rows.view_is) (λ x b said. search (rules, over_iff, length-map))
