use Rattle.portal_list.proofs.Base.{◌≡◌, ap, iff_false}
use Rattle.std.specs.Prelude.{Err}
use Rattle.std.proofs.lemmas.Result.{err_from_is_err_and}
use Rattle.portal_list.specs.declared.from_rows.RowsFault.TheVariants.{NotGood}
use Rattle.portal_list.proofs.Parted.{sound_tells}
use Rattle.portal_list.proofs.keeper.ListKeeper.from_rows.Goals as goal

pub returns-in_err-keeper-clause-err : goal.returns-in_err-keeper-clause-err
returns-in_err-keeper-clause-err c refused w e sound first =
    let (x, returned, is) = err_from_is_err_and c.from_residual.result c.from_residual.ensures.1 in
    let same : c.in_err-keeper.field-0.0 ≡ NotGood = cc in
    c.in_err-keeper.ensures.refused (ap Err same) w e sound

pub returns-then-not-branch-clause-err : goal.returns-then-not-branch-clause-err
returns-then-not-branch-clause-err c refused w e sound first =
    sound_tells c.args.rows c.in_ok-keeper.keeper c.in_ok-keeper.ensures.fitted
    (iff_false c.in_ok-is_sound.ensures c.if-not-branch.true) w e sound
