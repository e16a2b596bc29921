use Rattle.portal_tables.proofs.Base.{◌≡◌, ◌∷◌, true, [], sym, subst, subst₂, ◌∙◌, AllByRecursion, state, is_key}
use Rattle.portal_tables.proofs.Base.{ListsBy, has_text, columns, tree_of, shown_name, all_unmap, ap, Err}
use Rattle.portal_tables.proofs.Listed.{list_whole, list_names, list_counts}
use Rattle.portal_tables.proofs.InTurn.{reads_more, judged, both, reads_handed, not_stores}
use Rattle.portal_tables.proofs.reading.entries.list_in.Goals as goal

pub returns : goal.returns
returns g c =
    let owner = c.args.owner.now in
    let table = (state g.S.Store c.args.conn.now).now.trees (tree_of c.args.lists) in
    let rows = c.deref.result.now in
    let e = c.list_from.ensures in
    reads_more (not_stores c.list_from.result e.store) c.in_ok-rows.ensures.reads
    (λ own any shown.
    let h : ListsBy (2 ∷ []) (has_text 1 owner) (columns (2 ∷ 3 ∷ [])) table rows =
    subst₂ (λ key rows. ListsBy (2 ∷ []) (has_text 1 key) (columns (2 ∷ 3 ∷ [])) table rows) c.as_bytes.ensures.bytes
    (sym c.deref.ensures.value) shown in
    judged c.list_from.result _ _ (both c.list_from.result _ _ _
    (λ v up are. record { are = are ∙ list_names owner table rows h up; whole = list_whole owner table rows h up }) e.whole e.names)
    (λ damaged fine.
    let up = list_counts owner table rows h fine.whole in
    e.damaged damaged up (all_unmap (λ k. is_key k ≡ true) shown_name rows
    (subst (AllByRecursion (λ k. is_key k ≡ true)) (sym (list_names owner table rows h up)) fine.keys))))

pub returns-in_err-rows : goal.returns-in_err-rows
returns-in_err-rows g c = reads_handed c.from_residual.ensures.1 c.in_err-rows.ensures.reads
    (λ own any told blamed so. c.in_err-rows.ensures.undamaged (ap Err blamed))
