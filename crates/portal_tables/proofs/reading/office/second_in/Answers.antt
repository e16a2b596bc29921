use Rattle.portal_tables.proofs.Base.{◌∷◌, [], Err, sym, ap, subst, ◌∙◌, IfOk-weaker, state, second_tree, ListsBy}
use Rattle.portal_tables.proofs.Base.{every, columns}
use Rattle.portal_tables.proofs.InTurn.{reads_more, answered, reads_handed, not_stores}
use Rattle.portal_tables.proofs.OfficeRow.{second_found, second_there}
use Rattle.portal_tables.proofs.reading.office.second_in.Goals as goal

pub returns : goal.returns
returns g c =
    let now = (state g.S.Store c.args.conn.now).now in
    let found = c.second_from in
    reads_more (not_stores found.result found.ensures.store) c.in_ok-rows.ensures.reads
    (λ own any shown.
    let h : ListsBy (0 ∷ []) every (columns (0 ∷ 2 ∷ [])) (now.trees second_tree) c.deref.result.now =
    subst (ListsBy (0 ∷ []) every (columns (0 ∷ 2 ∷ [])) (now.trees second_tree)) (sym c.deref.ensures.value) shown in
    answered found.result _ _ (IfOk-weaker found.result _ _
    (λ phase is sound. second_found now own sound c.deref.result.now h phase is) found.ensures.ok)
    (λ e is phase blamed row. found.ensures.damaged (is ∙ ap Err blamed) phase
    (second_there (now.trees second_tree) c.deref.result.now h phase row)))

pub returns-in_err-rows : goal.returns-in_err-rows
returns-in_err-rows g c = reads_handed c.from_residual.ensures.1 c.in_err-rows.ensures.reads
    (λ own any told phase blamed so. c.in_err-rows.ensures.undamaged (ap Err blamed))
