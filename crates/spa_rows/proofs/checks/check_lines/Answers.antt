use Rattle.spa_rows.proofs.Base.{Ok, Err, refl, HasNoneBefore, IsRefusal, TooMany, BadKey, KeyTwice, BadCapacity}
use Rattle.spa_rows.proofs.Base.{NoSuchLecturer}
use Rattle.spa_rows.proofs.FirstFault.{refuse_ok, refuse_err, none_before_first, handed_on}
use Rattle.spa_rows.proofs.checks.check_lines.Goals as goal

pub returns-in_err-refuse-2-clause-err : goal.returns-in_err-refuse-2-clause-err
returns-in_err-refuse-2-clause-err c =
    let rows = c.args.rows.now in
    let before_2 : HasNoneBefore rows BadKey =
    refuse_ok rows TooMany BadKey c.too_many.result (Ok c.in_ok-refuse.field-0) refl c.in_ok-refuse.ensures
    (none_before_first rows) c.too_many.ensures in
    let refusal = refuse_err rows BadKey c.bad_keys.result
    (Err c.in_err-refuse-2.field-0.0) c.in_err-refuse-2.ensures before_2 c.bad_keys.ensures in
    handed_on c.from_residual-in_err-refuse-2.result _ (λ e. IsRefusal rows e.fault e.row) c.from_residual-in_err-refuse-2.ensures.1 refusal

pub returns-in_err-refuse-3-clause-err : goal.returns-in_err-refuse-3-clause-err
returns-in_err-refuse-3-clause-err c =
    let rows = c.args.rows.now in
    let before_2 : HasNoneBefore rows BadKey =
    refuse_ok rows TooMany BadKey c.too_many.result (Ok c.in_ok-refuse.field-0) refl c.in_ok-refuse.ensures
    (none_before_first rows) c.too_many.ensures in
    let before_3 : HasNoneBefore rows KeyTwice =
    refuse_ok rows BadKey KeyTwice c.bad_keys.result
    (Ok c.in_ok-refuse-2.field-0) refl c.in_ok-refuse-2.ensures before_2 c.bad_keys.ensures in
    let refusal = refuse_err rows KeyTwice c.in_ok-keys_twice.field-0
    (Err c.in_err-refuse-3.field-0.0) c.in_err-refuse-3.ensures before_3 c.in_ok-keys_twice.ensures in
    handed_on c.from_residual-in_err-refuse-3.result _ (λ e. IsRefusal rows e.fault e.row) c.from_residual-in_err-refuse-3.ensures.1 refusal

pub returns-clause-ok : goal.returns-clause-ok
returns-clause-ok c =
    let rows = c.args.rows.now in
    let before_2 : HasNoneBefore rows BadKey =
    refuse_ok rows TooMany BadKey c.too_many.result (Ok c.in_ok-refuse.field-0) refl c.in_ok-refuse.ensures
    (none_before_first rows) c.too_many.ensures in
    let before_3 : HasNoneBefore rows KeyTwice =
    refuse_ok rows BadKey KeyTwice c.bad_keys.result
    (Ok c.in_ok-refuse-2.field-0) refl c.in_ok-refuse-2.ensures before_2 c.bad_keys.ensures in
    let before_4 : HasNoneBefore rows BadCapacity =
    refuse_ok rows KeyTwice BadCapacity c.in_ok-keys_twice.field-0
    (Ok c.in_ok-refuse-3.field-0) refl c.in_ok-refuse-3.ensures before_3 c.in_ok-keys_twice.ensures in
    refuse_ok rows BadCapacity NoSuchLecturer c.bad_capacities.result c.refuse-4.result refl c.refuse-4.ensures before_4
    c.bad_capacities.ensures

pub returns-clause-err : goal.returns-clause-err
returns-clause-err c =
    let rows = c.args.rows.now in
    let before_2 : HasNoneBefore rows BadKey =
    refuse_ok rows TooMany BadKey c.too_many.result (Ok c.in_ok-refuse.field-0) refl c.in_ok-refuse.ensures
    (none_before_first rows) c.too_many.ensures in
    let before_3 : HasNoneBefore rows KeyTwice =
    refuse_ok rows BadKey KeyTwice c.bad_keys.result
    (Ok c.in_ok-refuse-2.field-0) refl c.in_ok-refuse-2.ensures before_2 c.bad_keys.ensures in
    let before_4 : HasNoneBefore rows BadCapacity =
    refuse_ok rows KeyTwice BadCapacity c.in_ok-keys_twice.field-0
    (Ok c.in_ok-refuse-3.field-0) refl c.in_ok-refuse-3.ensures before_3 c.in_ok-keys_twice.ensures in
    refuse_err rows BadCapacity c.bad_capacities.result c.refuse-4.result c.refuse-4.ensures before_4 c.bad_capacities.ensures
