use Rattle.portal_store.proofs.Base.{Ok, map, ap, subst, ◌∙◌, Assigns, Does, GoesOn, does_then, assigned_of}
use Rattle.portal_store.proofs.Placements.{result_made}
use Rattle.portal_store.proofs.changing.placing.PutResultTableChange.take.Goals as goal

pub returns : goal.returns
returns g c =
    let pairs = c.args.self.pairs.now in
    let rows = c.args.self.rows.now in
    let all = c.deref.ensures.value ∙ c.in_ok-all.ensures ∙ ap (λ ps. map (assigned_of ps) rows) c.in_ok-pairs.ensures in
    does_then g.S.Store _ _ _ _ _ _ _ _
    (subst (λ all. Does g.S.Store (GoesOn (Assigns all)) (Ok (tt {0})) c.args.tx.now c.assign_all.new.tx) all c.in_ok-assign_all.ensures)
    c.set_phase.ensures
    (result_made pairs rows _ _ _)
