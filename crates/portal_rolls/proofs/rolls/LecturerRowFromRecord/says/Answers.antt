use Rattle.portal_rolls.proofs.Base.{err_from_is_err_and, is_key, is_code, is_name}
use Rattle.portal_rolls.proofs.Columns.{fourth_fails}
use Rattle.portal_rolls.proofs.rolls.LecturerRowFromRecord.says.Goals as goal

pub returns-in_err-capacity_at : goal.returns-in_err-capacity_at
returns-in_err-capacity_at c =
    let f = c.four.result in
    let (e, returned, is) = err_from_is_err_and c.from_residual-in_err-capacity_at.result c.from_residual-in_err-capacity_at.ensures.1 in
    rw (returned, is, c.four.ensures)
    (fourth_fails c.args.number is_key is_name is_code f.0.now f.1.now f.2.now f.3.now _ _ _ _ _ _ _ c.in_err-capacity_at.field-0.0
    c.in_ok-key_at.ensures c.in_ok-name_at.ensures c.in_ok-code_at.ensures c.in_err-capacity_at.ensures)
