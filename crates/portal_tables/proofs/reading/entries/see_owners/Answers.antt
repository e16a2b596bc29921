use Rattle.portal_tables.proofs.Base.{◌≡◌, ◌∷◌, true, false, [], map, filter, sym, subst, AllByRecursion, state, Cells}
use Rattle.portal_tables.proofs.Base.{all-filter, Key, has, all_map, columns, every, tree_of, row_key, first_cell, ap}
use Rattle.portal_tables.proofs.Base.{Err}
use Rattle.portal_tables.proofs.InTurn.{reads_more, reads_handed}
use Rattle.portal_tables.proofs.Listed.{permuted}
use Rattle.portal_tables.proofs.Sorted.{all_permuted}
use Rattle.portal_tables.proofs.reading.entries.see_owners.Goals as goal

pub returns : goal.returns
returns g c =
    let table = (state g.S.Store c.args.conn.now).now.trees (tree_of c.args.lists) in
    let rows = c.in_ok-rows.rows.items in
    let Known : Key → Type 0 = λ k. has (map first_cell c.args.owners.now) k ≡ true in
    reads_more (λ its. absurd (cc)) c.in_ok-rows.ensures.reads
    (λ own any shown blamed owned.
    let named : AllByRecursion (λ r. Known (first_cell r)) rows =
    all_permuted (λ r. Known (first_cell r)) _ rows (permuted _ _ _ table rows shown)
    (all_map (λ r. Known (first_cell r)) (columns (1 ∷ 2 ∷ 3 ∷ [])) (filter every table)
    (all-filter (λ r. Known (row_key r)) every table owned.known)) in
    absurd (let e : false ≡ true = c.if-are_owned.ensures.owned owned.rise
    (subst (AllByRecursion (λ (r : Cells). Known (first_cell r))) (sym c.deref.ensures.value) named) in cc))

pub returns-in_err-rows : goal.returns-in_err-rows
returns-in_err-rows g c = reads_handed c.from_residual.ensures.1 c.in_err-rows.ensures.reads
    (λ own any told blamed so. c.in_err-rows.ensures.undamaged (ap Err blamed))
