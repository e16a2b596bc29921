use Rattle.portal_store.proofs.Base.{rules, ◌≡◌, ◌∙◌, ap, sym, refl, filter, not, false, List, [], ◌∷◌, length, Key}
use Rattle.portal_store.proofs.Base.{equals, is_empty, OfficeSees, Choosing}
use Rattle.std.specs.Bool.{◌==◌}
use Rattle.portal_store.proofs.Refreshed.{choosing_seen, seen_with}
use Rattle.portal_store.proofs.reading.view_cache.after_list.Goals as goal

not_empty : (list : List Key) → false ≡ (length list == 0) → is_empty list ≡ false
not_empty [] e = cc
not_empty (x ∷ xs) e = refl

pub returns : goal.returns
returns c w told =
    let k = c.args.student.now in
    let renewed : OfficeSees → OfficeSees = λ v. record v { without_list = filter (λ x. not (equals x k)) v.without_list } in
    let phase : c.view.inside.phase ≡ Choosing = search rules in
    let some : is_empty c.args.projects.now ≡ false = not_empty c.args.projects.now c.if-is_empty.ensures in
    ap (λ ks. seen_with c.view.inside ks c.view.inside.still_to_rank.items) c.but_for.ensures ∙ ap renewed (c.view.view_is ∙ told)
    ∙ sym (choosing_seen w k c.args.projects.now (sym (ap (λ v. v.phase) (c.view.view_is ∙ told)) ∙ phase) some)
