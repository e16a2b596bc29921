use Rattle.portal_tables.proofs.Base.{◌∷◌, first_pair, [], ap, sym, subst, ◌∙◌, IfOk-weaker, AllByRecursion, filter_map}
use Rattle.portal_tables.proofs.Base.{state, student_tree, OfRoll, Students, HasPairKeys}
use Rattle.portal_tables.proofs.InTurn.{reads_more, reads_handed, judged, not_stores}
use Rattle.portal_tables.proofs.Listed.{roll_rises, roll_shown}
use Rattle.portal_tables.proofs.Texts.{key_texts}
use Rattle.portal_tables.proofs.reading.placements.first_pairs_in.Goals as goal

pub returns-in_err-rows : goal.returns-in_err-rows
returns-in_err-rows g c =
    let now = (state g.S.Store c.args.conn.now).now in
    reads_handed c.from_residual.ensures.1 c.in_err-rows.ensures.reads
    (λ own any told blamed it. told blamed (λ rows shown. roll_rises (4 ∷ []) (now.trees student_tree) rows shown
    (key_texts now (OfRoll Students) own it.0) it.1))

pub returns : goal.returns
returns g c =
    let table = (state g.S.Store c.args.conn.now).now.trees student_tree in
    let rows = c.in_ok-rows in
    reads_more (not_stores c.pairs_from.result c.pairs_from.ensures.store) rows.ensures.reads
    (λ own any shown.
    let same = c.deref.ensures.value ∙ roll_shown (4 ∷ []) table rows.rows.items shown rows.ensures.rise in
    judged c.pairs_from.result _ _ (IfOk-weaker c.pairs_from.result _ _
    (λ v is. is ∙ ap (filter_map first_pair) same) c.pairs_from.ensures.ok)
    (λ damaged it. c.pairs_from.ensures.damaged damaged (subst (AllByRecursion HasPairKeys) (sym same) it.2)))
