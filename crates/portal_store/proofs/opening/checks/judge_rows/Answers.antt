use Rattle.portal_store.proofs.Base.{Good, HasEntries, false, rules, subst, sym, true, ◌∙◌, ◌≡◌}
use Rattle.portal_store.proofs.RowsOnce.{rows_once}
use Rattle.portal_store.proofs.opening.checks.judge_rows.Goals as goal

pub returns-in-Err-NotGood-clause-good : goal.returns-in-Err-NotGood-clause-good
returns-in-Err-NotGood-clause-good c w is before good =
    c.in-Err-NotGood.ensures.err (search rules) w is good.sound (λ second. (good.before second).sound)

pub returns-in-Ok-true-clause-good : goal.returns-in-Ok-true-clause-good
returns-in-Ok-true-clause-good c w is before =
    let same = rows_once c.in-Ok.keeper w c.in-Ok.ensures.sound before (sym is ∙ c.in-Ok.ensures.ok) in
    let yes : c.in-Ok-true.field-0 ≡ true = cc in
    (subst Good (sym same) (c.in-Ok-true.ensures.0 yes), subst (HasEntries c.into_entries.result) (sym same) c.into_entries.ensures)

pub returns-in-Ok-false-clause-good : goal.returns-in-Ok-false-clause-good
returns-in-Ok-false-clause-good c w is before good =
    let same = rows_once c.in-Ok.keeper w c.in-Ok.ensures.sound before (sym is ∙ c.in-Ok.ensures.ok) in
    let yes : c.in-Ok-false.field-0 ≡ true = c.in-Ok-false.ensures.1 (subst Good same good) in
    let no : c.in-Ok-false.field-0 ≡ false = cc in
    let e : true ≡ false = sym yes ∙ no in
    absurd (cc)
