use Rattle.portal_tables.proofs.Base.{IfOk-from_err}
use Rattle.portal_tables.proofs.InTurn.{at_item, blamed, not_blamed}
use Rattle.portal_tables.proofs.reading.decode.decode_rows.Goals as goal

pub returns-in_err-from_cells-clause-ok : goal.returns-in_err-from_cells-clause-ok
returns-in_err-from_cells-clause-ok g c = IfOk-from_err c.from_residual.result _ c.from_residual.ensures.0

pub returns-in_err-from_cells-clause-damaged : goal.returns-in_err-from_cells-clause-damaged
returns-in_err-from_cells-clause-damaged g c told fine =
    c.in_err-from_cells.ensures.damaged (blamed c.from_residual.result _ c.from_residual.ensures.1 told)
    (at_item g.T.FromCells.is_fine c.args.rows.now _ _ c.row-item.is c.loop-row-test.true fine)

pub returns-in_err-push-clause-ok : goal.returns-in_err-push-clause-ok
returns-in_err-push-clause-ok g c = IfOk-from_err c.from_residual-in_err-push.result _ c.from_residual-in_err-push.ensures.0

pub returns-in_err-push-clause-damaged : goal.returns-in_err-push-clause-damaged
returns-in_err-push-clause-damaged g c told fine = not_blamed c.from_residual-in_err-push.result c.from_residual-in_err-push.ensures.1 told
