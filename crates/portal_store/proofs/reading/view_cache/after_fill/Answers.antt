use Rattle.portal_store.proofs.Base.{◌∙◌, [], ap, sym, OfficeSees}
use Rattle.portal_rules.proofs.Fills.{office_filled}
use Rattle.portal_store.proofs.Refreshed.{seen_with}
use Rattle.portal_store.proofs.reading.view_cache.after_fill.Goals as goal

pub returns : goal.returns
returns c w told =
    let renewed : OfficeSees → OfficeSees = λ v. record v { still_to_rank = [] } in
    ap (seen_with c.view.inside c.view.inside.without_list.items) c.clear.ensures.items ∙ ap renewed (c.view.view_is ∙ told)
    ∙ sym (office_filled w)
