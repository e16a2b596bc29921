use Rattle.portal_rules.proofs.Base.{◌≡◌, [], ◌∷◌, ◌++◌, refl, sym, ◌∙◌, ap}
use Rattle.portal_rules.proofs.Growing.{kept_more, left_more}
use Rattle.portal_rules.proofs.collecting.try_map_where.Goals as goal
use Rattle.portal_rules.proofs.collecting.try_map_where.Goals.{then-keep+in_ok-make+in_ok-push, else-keep}

pub loop-item-preserved : goal.loop-item-preserved
loop-item-preserved g c p f keeps makes =
    let i = c.loop-item.item-index in
    let x = c.item-item.result in
    let kept : c.keep.result ≡ p x = keeps x c.keep.result (record { shown = _; shows = refl; says = record { met = c.keep.ensures } }) in
    elim c.if-keep.branch [
      | then-keep+in_ok-make+in_ok-push w ↦
          let made : w.in_ok-make.field-0 ≡ f x = makes x w.in_ok-make.field-0
          (record { shown = _; shows = refl; says = record { met = w.in_ok-make.ensures } }) in
          ap (λ v. v.items) w.made-is ∙ w.in_ok-push.ensures.items ∙ (λ j. c.loop-item.invariant p f keeps makes j ++ made j ∷ [])
          ∙ sym (kept_more p f c.args.items.now i x c.loop-item-test.true (sym c.item-item.is) (sym kept ∙ w.if-keep.true))
      | else-keep w ↦ ap (λ v. v.items) w.made-is ∙ c.loop-item.invariant p f keeps makes
          ∙ sym (left_more p f c.args.items.now i x c.loop-item-test.true (sym c.item-item.is) (sym kept ∙ w.if-keep.false))
    ]
