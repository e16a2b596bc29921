use Rattle.portal_tables.proofs.InTurn.{its_own}
use Rattle.portal_views.proofs.Base.{◌∙◌, ◌∷◌, AllByRecursion, IsStudentKey, List, ListsBy, MatchResult-weaker, Row, []}
use Rattle.portal_views.proofs.Base.{all_unmap, ap, applicant_at, Choices, columns, first_cell, has_text, map}
use Rattle.portal_views.proofs.Base.{reads_as, reads_handed, reads_then, state, subst, sym, tree_of}
use Rattle.portal_views.proofs.Turns.{reads_any}
use Rattle.portal_views.proofs.Choosers.{choosers_known}
use Rattle.portal_views.proofs.LineRows.{lines_are}
use Rattle.portal_views.proofs.RisingKeys.{choosers_rise}
use Rattle.portal_views.proofs.lines.lines_to.Goals as goal

pub returns-in_err-rows : goal.returns-in_err-rows
returns-in_err-rows g c =
    reads_handed c.from_residual.ensures.1 (reads_any c.in_err-rows.ensures.reads)
    (λ own tables no damaged students. no damaged
    (choosers_rise c.args.round (state g.S.Store c.args.conn.now).now tables c.as_bytes.result.now))

pub returns : goal.returns
returns g c =
    let r = c.lines_each.result in
    let db = (state g.S.Store c.args.conn.now).now in
    let round = c.args.round in
    let rows = c.in_ok-rows.rows.items in
    reads_as (its_own _ r) (reads_then (reads_any c.in_ok-rows.ensures.reads) c.lines_each.ensures) (λ no. no)
    (λ own tables told.
    let shown : ListsBy (1 ∷ []) (has_text 3 c.args.project.now) (columns (1 ∷ [])) (db.trees (tree_of (Choices round))) rows =
    subst (λ key. ListsBy (1 ∷ []) (has_text 3 key) (columns (1 ∷ [])) (db.trees (tree_of (Choices round))) rows) c.as_bytes.ensures.bytes
    told.0 in
    let known = all_unmap (IsStudentKey db.trees) first_cell rows (choosers_known round db tables c.args.project.now rows shown) in
    MatchResult-weaker r told.1
    (λ v is. lines_are round db tables c.args.project.now rows shown v.items c.in_ok-rows.ensures.rise
    (is ∙ ap (λ (rs : List Row). map (λ r. applicant_at round db.trees (first_cell r)) rs) c.deref.ensures.value))
    (λ fault no damaged students. no damaged
    (students, subst (AllByRecursion (λ r. IsStudentKey db.trees (first_cell r))) (sym c.deref.ensures.value) known)))
