use Rattle.spa_model.proofs.Base.{◌≡◌, map, length, sym, ap, ◌∙◌, arith, rules, length-map, nat_cmp, slice_cmp}
use Rattle.spa_model.proofs.Base.{nat_list_cmp_total, always_returns_same, searchable_from_sorted, TextsRise}
use Rattle.spa_model.proofs.Numbers.{number_found, number_none, sorted_rows}
use Rattle.spa_model.proofs.instance.Instance.project_number.Goals as goal

pub returns-in-Ok : goal.returns-in-Ok
returns-in-Ok c =
    let rise : TextsRise (map (λ x. x.key) c.deref.result.now) = rw c.deref.ensures.value c.self.invariant.0.project_keys_rise in
    rw (← c.self.view_is, ← c.deref.ensures.value)
    (number_found (λ x. x.key) c.deref.result.now c.args.text.now c.in-Ok.p rise c.in-Ok.ensures.bound
    (c.in-Ok.ensures.position (λ y. slice_cmp nat_cmp y.key c.args.text.now) (always_returns_same _ _ _ (λ a r g k. search rules))))

pub returns-in-Err : goal.returns-in-Err
returns-in-Err c =
    let rise : TextsRise (map (λ x. x.key) c.deref.result.now) = rw c.deref.ensures.value c.self.invariant.0.project_keys_rise in
    let part = c.in-Err.ensures.position (λ y. slice_cmp nat_cmp y.key c.args.text.now)
    (always_returns_same _ _ _ (λ a r g k. search rules))
    (searchable_from_sorted nat_list_cmp_total (λ x. x.key) c.deref.result.now c.args.text.now
    (sorted_rows (λ x. x.key) c.deref.result.now rise)) in
    let count : c.projects.result ≡ length c.deref.result.now = c.projects.ensures.count ∙ ap (λ i. length i.lecturers) (sym c.self.view_is)
    ∙ length-map c.self.inside.projects.items (λ x. x.lecturer) ∙ ap length (sym c.deref.ensures.value) in
    rw (count, ← c.self.view_is, ← c.deref.ensures.value)
    (number_none (λ x. x.key) c.deref.result.now c.args.text.now c.in-Err.field-0 (λ k d h. part.0 k d (omega arith) h) part.1)
