use Rattle.portal_store.proofs.Base.{◌∷◌, [], ◌++◌, sym, ap, ◌∙◌, pair_left}
use Rattle.portal_rules.proofs.Growing.{some_more, none_more}
use Rattle.portal_store.proofs.changing.placing.pairs_left.Goals as goal
use Rattle.portal_store.proofs.changing.placing.pairs_left.Goals.{in-Some+in_ok-push, in_default}

pub loop-row-preserved : goal.loop-row-preserved
loop-row-preserved c =
    let left = pair_left c.args.pairs.now in
    let rows = c.args.rows.now in
    let i = c.loop-row.row-index in
    let x = c.row-item.result in
    let told = c.in_ok-pair.ensures ∙ ap (λ pairs. pair_left pairs x) c.in_ok-pairs.ensures in
    elim c.match-branch-3.branch [
      | in-Some+in_ok-push w ↦
          ap (λ v. v.items) w.found-is ∙ w.in_ok-push.ensures.items ∙ (λ j. c.loop-row.invariant j ++ w.in-Some.pair ∷ [])
          ∙ sym (some_more left rows i x c.loop-row-test.true (sym c.row-item.is) w.in-Some.pair (sym told ∙ w.in-Some.is))
      | in_default w ↦ ap (λ v. v.items) w.found-is ∙ c.loop-row.invariant
          ∙ sym (none_more left rows i x c.loop-row-test.true (sym c.row-item.is) (sym told ∙ w.in_default.is))
    ]
