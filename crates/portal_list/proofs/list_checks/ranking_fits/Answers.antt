use Rattle.portal_list.proofs.Base.{◌≡◌, ◌↔◌, IfOk, IsTrue, map, ◌∙◌, ap, subst, option_map, rise_kept, applicant_keys}
use Rattle.portal_list.proofs.Base.{HasRanking, rules}
use Rattle.portal_list.proofs.list_checks.ranking_fits.Goals as goal

pub is_ranked-requires : goal.is_ranked-requires
is_ranked-requires c = search (rules, rise_kept)

pub returns : goal.returns
returns c =
    let keys : map (λ k. k.now) c.deref.result.now ≡ applicant_keys c.args.projects.now c.args.wanted.now c.args.lecturer.now.row.key
    = ap (map (λ k. k.now)) c.deref.ensures.value ∙ c.in_ok-applicants.ensures
    ∙ ap (λ l. applicant_keys c.args.projects.now c.args.wanted.now l.row.key) c.lecturer.view_is in
    let ranking : option_map (λ r. r.items) c.lecturer.inside.ranking
    ≡ c.args.lecturer.now.ranking = ap (λ l. l.ranking) c.lecturer.view_is in
    subst (λ r. IfOk c.is_ranked.result (λ yes. IsTrue yes
    ↔ HasRanking c.args.asked (applicant_keys c.args.projects.now c.args.wanted.now c.args.lecturer.now.row.key) r)) ranking
    (subst (λ ks. IfOk c.is_ranked.result (λ yes. IsTrue yes
    ↔ HasRanking c.args.asked ks (option_map (λ r. r.items) c.lecturer.inside.ranking))) keys c.is_ranked.ensures)
