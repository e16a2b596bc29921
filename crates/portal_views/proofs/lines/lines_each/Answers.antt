use Rattle.portal_views.proofs.Base.{◌∙◌, IsStudentKey, ap, applicant_at, arith, at_item, common_steps, first_cell}
use Rattle.portal_views.proofs.Base.{reads_handed, reads_more, reads_open, reads_short, reads_then, state, subst, sym}
use Rattle.portal_views.proofs.lines.lines_each.Goals as goal

pub returns-in_err-line_in : goal.returns-in_err-line_in
returns-in_err-line_in g c =
    let db = (state g.S.Store c.args.conn.now).now.trees in
    reads_handed c.from_residual.ensures.1 (reads_then c.loop-row.invariant (reads_open c.in_err-line_in.ensures))
    (λ own tables told damaged known. told.1 damaged (
      known.0,
      subst (IsStudentKey db) (sym c.bytes_at.ensures)
          (at_item (λ r. IsStudentKey db (first_cell r)) c.args.rows.now _ _ c.row-item.is c.loop-row-test.true known.1),
    ))

pub returns-in_err-push : goal.returns-in_err-push
returns-in_err-push g c =
    reads_short c.from_residual-in_err-push.ensures.1 (reads_then c.loop-row.invariant (reads_open c.in_ok-line_in.ensures))
    (λ own tables told damaged. absurd (cc))

pub loop-row-preserved : goal.loop-row-preserved
loop-row-preserved g c =
    reads_more tt (reads_then c.loop-row.invariant (reads_open c.in_ok-line_in.ensures))
    (λ own tables told.
    let before = told.0 in
    let here = told.1 ∙ ap (applicant_at c.args.round (state g.S.Store c.args.conn.now).now.trees) c.bytes_at.ensures in
    grind (arith, common_steps, before, here))
