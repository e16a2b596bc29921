use Rattle.portal_store.proofs.Base.{rules, ◌≡◌, ◌∙◌, ap, sym, filter, not, equals, OfficeSees, Ranking}
use Rattle.portal_store.proofs.Refreshed.{ranking_seen, seen_with}
use Rattle.portal_store.proofs.reading.view_cache.after_ranking.Goals as goal

pub returns : goal.returns
returns c w told =
    let k = c.args.lecturer.now in
    let renewed : OfficeSees → OfficeSees = λ v. record v { still_to_rank = filter (λ x. not (equals x k)) v.still_to_rank } in
    let phase : c.view.inside.phase ≡ Ranking = search rules in
    ap (seen_with c.view.inside c.view.inside.without_list.items) c.but_for.ensures ∙ ap renewed (c.view.view_is ∙ told)
    ∙ sym (ranking_seen w k _ (sym (ap (λ v. v.phase) (c.view.view_is ∙ told)) ∙ phase))
