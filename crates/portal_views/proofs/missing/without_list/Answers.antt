use Rattle.portal_tables.proofs.InTurn.{not_stores}
use Rattle.portal_views.proofs.Base.{◌∙◌, ◌∷◌, IfOk-weaker, ListsBy, [], Choices, columns, has_number, judged}
use Rattle.portal_views.proofs.Base.{reads_handed, reads_more, state, subst, sym, tree_of}
use Rattle.portal_views.proofs.Turns.{reads_any}
use Rattle.portal_views.proofs.RisingKeys.{listed_rise}
use Rattle.portal_views.proofs.OfficeLists.{unlisted_are}
use Rattle.portal_views.proofs.missing.without_list.Goals as goal

pub returns-in_err-listed : goal.returns-in_err-listed
returns-in_err-listed g c =
    reads_handed c.from_residual.ensures.1 (reads_any c.in_err-listed.ensures.reads)
    (λ own lists no damaged keys. no damaged (listed_rise c.args.round (state g.S.Store c.args.conn.now).now lists.tables))

pub returns : goal.returns
returns g c =
    let r = c.keys_not_among.result in
    let db = (state g.S.Store c.args.conn.now).now in
    let round = c.args.round in
    reads_more (not_stores r c.keys_not_among.ensures.store) (reads_any c.in_ok-listed.ensures.reads)
    (λ own lists told.
    let shown : ListsBy (1 ∷ []) (has_number 2 1) (columns (1 ∷ [])) (db.trees (tree_of (Choices round))) c.deref.result.now =
    subst (λ rows. ListsBy (1 ∷ []) (has_number 2 1) (columns (1 ∷ [])) (db.trees (tree_of (Choices round))) rows)
    (sym c.deref.ensures.value) told in
    judged r _ _ (IfOk-weaker r _ _ (λ v is. is ∙ unlisted_are round db lists c.deref.result.now shown c.args.students.now)
    c.keys_not_among.ensures.ok) c.keys_not_among.ensures.damaged)
