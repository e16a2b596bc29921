use Rattle.portal_reports.proofs.Base.{◌≡◌, ◌++◌, ◌∙◌, ap, codes, length, number_line}
use Rattle.portal_reports.proofs.status.put_missing.Goals as goal

pub returns : goal.returns
returns c =
    let lists : c.len.result ≡ length c.args.view.now.without_list =
    c.len.ensures ∙ (c.view.inside.without_list.ok.0 ∙ ap (λ w. length w.without_list) c.view.view_is) in
    let rankings : c.len-2.result ≡ length c.args.view.now.still_to_rank =
    c.len-2.ensures ∙ (c.view.inside.still_to_rank.ok.0 ∙ ap (λ w. length w.still_to_rank) c.view.view_is) in
    c.in_ok-put_number-2.ensures ∙ ((λ i. c.in_ok-put_number.ensures i ++ number_line (codes "still to rank") (rankings i))
    ∙ ap (λ n. c.args.text.now.items ++ number_line (codes "without list") n
    ++ number_line (codes "still to rank") (length c.args.view.now.still_to_rank)) lists)
