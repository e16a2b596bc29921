use Rattle.portal_list.proofs.Base.{◌≡◌, ◌∙◌, sym, ap, subst₂, IsFitted, RowsOfWorld, world_with}
use Rattle.std.specs.Prelude.{Err}
use Rattle.std.proofs.lemmas.Result.{err_from_is_err_and}
use Rattle.portal_list.specs.declared.from_rows.RowsFault.TheVariants.{NotGood}
use Rattle.portal_list.proofs.Parted.{rolls_tell, rolls_kept}
use Rattle.portal_list.proofs.from_rows.keeper_of_rows.Goals as goal

pub returns-in_err-check_rolls-clause-refused : goal.returns-in_err-check_rolls-clause-refused
returns-in_err-check_rolls-clause-refused c refused w e sound =
    let (x, returned, is) = err_from_is_err_and c.from_residual.result c.from_residual.ensures.1 in
    let same : c.in_err-check_rolls.field-0.0 ≡ NotGood = cc in
    rolls_tell c.args.rows (c.in_err-check_rolls.ensures.refused (ap Err same)) w e sound

pub returns-in_err-entries-clause-refused : goal.returns-in_err-entries-clause-refused
returns-in_err-entries-clause-refused c refused w e sound =
    let (x, returned, is) = err_from_is_err_and c.from_residual-in_err-entries.result c.from_residual-in_err-entries.ensures.1 in
    let same : c.in_err-entries.field-0.0 ≡ NotGood = cc in
    c.in_err-entries.ensures.refused (ap Err same) w e sound

pub returns-clause-fitted : goal.returns-clause-fitted
returns-clause-fitted c =
    let phase = ap (λ (r : RowsOfWorld). r.phase) c.rows.view_is in
    let office = c.in_ok-office.ensures ∙ ap (λ (r : RowsOfWorld). r.office) c.rows.view_is in
    subst₂ (λ p o. IsFitted c.args.rows (world_with p o c.in_ok-entries.entries)) (sym phase) (sym office) c.in_ok-entries.ensures.fitted

pub returns-clause-rolls : goal.returns-clause-rolls
returns-clause-rolls c = rolls_kept c.args.rows _ (returns-clause-fitted c) c.in_ok-check_rolls.ensures.fit
