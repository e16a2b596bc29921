use Rattle.portal_views.proofs.Base.{◌∙◌, ◌≡◌, Bool, Key, List, None, Option, Some, ap, cond, false, has_list}
use Rattle.portal_views.proofs.Base.{option_map, Rankings, reads_handed, reads_more, refl, state, true}
use Rattle.portal_views.proofs.lecturer.ranking_in.Goals as goal

second_of : (b : Bool) (key : Key) (list : List Key)
    → option_map (λ (e : Key × List Key). e.1) (cond {A = Option (Key × List Key)} b (Some (key, list)) None) ≡ cond b (Some list) None
second_of true key list = refl
second_of false key list = refl

pub returns : goal.returns
returns g c =
    reads_more tt c.in_ok-entry.ensures
    (λ own sound told. c.list_of.ensures ∙ ap (option_map (λ e. e.1)) told.0
    ∙ second_of (has_list (Rankings c.args.round) (state g.S.Store c.args.conn.now).now.trees c.args.row.now) _ _)

pub returns-in_err-entry : goal.returns-in_err-entry
returns-in_err-entry g c = reads_handed c.from_residual.ensures.1 c.in_err-entry.ensures (λ own sound no. no)
