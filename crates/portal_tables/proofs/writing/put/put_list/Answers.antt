use Rattle.portal_tables.proofs.Base.{Ok, map, ap, subst, ◌∙◌, tree_of, Does, Made, GoesOn, Adds, Clears, place_new}
use Rattle.portal_tables.proofs.Putting.{list_put}
use Rattle.portal_tables.proofs.Runs.{does_then}
use Rattle.portal_tables.proofs.writing.put.put_list.Goals as goal

pub returns : goal.returns
returns g c =
    let tree = tree_of c.args.lists in
    let cells = ap (map place_new) c.deref.ensures.value ∙ c.in_ok-rows.ensures in
    does_then g.S.Store _ _ _ _ _ _ _ _
    (subst (λ k. Does g.S.Store (Made (Clears tree k)) (Ok (tt {0})) c.args.tx.now c.clear_list.new.tx) c.as_bytes.ensures.bytes
    c.in_ok-clear_list.ensures)
    (subst (λ l. Does g.S.Store (GoesOn (Adds tree l)) c.add_all.result c.clear_list.new.tx c.add_all.new.tx) cells c.add_all.ensures)
    (list_put tree c.args.owner.now c.args.items.now _ _ _)
