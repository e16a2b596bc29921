use Rattle.portal_tables.proofs.Base.{◌∷◌, [], Err, sym, ap, subst, ◌∙◌, state, portal_tree, ListsBy, every, columns}
use Rattle.portal_tables.proofs.Base.{IfOk-weaker}
use Rattle.portal_tables.proofs.InTurn.{reads_more, answered, reads_handed, not_stores}
use Rattle.portal_tables.proofs.OfficeRow.{office_found, office_there}
use Rattle.portal_tables.proofs.reading.office.office_in.Goals as goal

pub returns : goal.returns
returns g c =
    let now = (state g.S.Store c.args.conn.now).now in
    let found = c.office_from in
    reads_more (not_stores found.result found.ensures.store) c.in_ok-rows.ensures.reads
    (λ own any shown.
    let h : ListsBy (0 ∷ []) every (columns (0 ∷ 2 ∷ 3 ∷ 4 ∷ [])) (now.trees portal_tree) c.deref.result.now =
    subst (ListsBy (0 ∷ []) every (columns (0 ∷ 2 ∷ 3 ∷ 4 ∷ [])) (now.trees portal_tree)) (sym c.deref.ensures.value) shown in
    answered found.result _ _ (IfOk-weaker found.result _ _
    (λ office is sound. office_found now own sound c.deref.result.now h c.args.version office.phase office.code is) found.ensures.ok)
    (λ e is office blamed code.
    let there = office_there c.args.version (now.trees portal_tree) c.deref.result.now h office in
    found.ensures.damaged (is ∙ ap Err blamed) there.0 office.phase office.office there.1 there.2 code))

pub returns-in_err-rows : goal.returns-in_err-rows
returns-in_err-rows g c = reads_handed c.from_residual.ensures.1 c.in_err-rows.ensures.reads
    (λ own any told office blamed so. c.in_err-rows.ensures.undamaged (ap Err blamed))
