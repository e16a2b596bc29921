use Rattle.spa_rows.proofs.Base.{Ok, Err, refl, HasNoneBefore, IsRefusal, NoSuchLecturer, NoSuchProject, RepeatInList}
use Rattle.spa_rows.proofs.Base.{ListTooLong, NotApplicant}
use Rattle.spa_rows.proofs.FirstFault.{refuse_ok, refuse_err, handed_on}
use Rattle.spa_rows.proofs.checks.check_lists.Goals as goal

pub returns-in_err-refuse-clause-err : goal.returns-in_err-refuse-clause-err
returns-in_err-refuse-clause-err c =
    let rows = c.args.rows.now in
    let refusal = refuse_err rows NoSuchLecturer c.in_ok-lecturers_missing.field-0
    (Err c.in_err-refuse.field-0.0) c.in_err-refuse.ensures c.requires c.in_ok-lecturers_missing.ensures in
    handed_on c.from_residual-in_err-refuse.result _ (λ e. IsRefusal rows e.fault e.row) c.from_residual-in_err-refuse.ensures.1 refusal

pub returns-in_err-refuse-2-clause-err : goal.returns-in_err-refuse-2-clause-err
returns-in_err-refuse-2-clause-err c =
    let rows = c.args.rows.now in
    let before_2 : HasNoneBefore rows NoSuchProject =
    refuse_ok rows NoSuchLecturer NoSuchProject c.in_ok-lecturers_missing.field-0
    (Ok c.in_ok-refuse.field-0) refl c.in_ok-refuse.ensures c.requires c.in_ok-lecturers_missing.ensures in
    let refusal = refuse_err rows NoSuchProject c.projects_missing.result
    (Err c.in_err-refuse-2.field-0.0) c.in_err-refuse-2.ensures before_2 c.projects_missing.ensures in
    handed_on c.from_residual-in_err-refuse-2.result _ (λ e. IsRefusal rows e.fault e.row) c.from_residual-in_err-refuse-2.ensures.1 refusal

pub returns-in_err-refuse-3-clause-err : goal.returns-in_err-refuse-3-clause-err
returns-in_err-refuse-3-clause-err c =
    let rows = c.args.rows.now in
    let before_2 : HasNoneBefore rows NoSuchProject =
    refuse_ok rows NoSuchLecturer NoSuchProject c.in_ok-lecturers_missing.field-0
    (Ok c.in_ok-refuse.field-0) refl c.in_ok-refuse.ensures c.requires c.in_ok-lecturers_missing.ensures in
    let before_3 : HasNoneBefore rows RepeatInList =
    refuse_ok rows NoSuchProject RepeatInList c.projects_missing.result
    (Ok c.in_ok-refuse-2.field-0) refl c.in_ok-refuse-2.ensures before_2 c.projects_missing.ensures in
    let refusal = refuse_err rows RepeatInList c.in_ok-repeats_in_lists.field-0
    (Err c.in_err-refuse-3.field-0.0) c.in_err-refuse-3.ensures before_3 c.in_ok-repeats_in_lists.ensures in
    handed_on c.from_residual-in_err-refuse-3.result _ (λ e. IsRefusal rows e.fault e.row) c.from_residual-in_err-refuse-3.ensures.1 refusal

pub returns-in_err-refuse-4-clause-err : goal.returns-in_err-refuse-4-clause-err
returns-in_err-refuse-4-clause-err c =
    let rows = c.args.rows.now in
    let before_2 : HasNoneBefore rows NoSuchProject =
    refuse_ok rows NoSuchLecturer NoSuchProject c.in_ok-lecturers_missing.field-0
    (Ok c.in_ok-refuse.field-0) refl c.in_ok-refuse.ensures c.requires c.in_ok-lecturers_missing.ensures in
    let before_3 : HasNoneBefore rows RepeatInList =
    refuse_ok rows NoSuchProject RepeatInList c.projects_missing.result
    (Ok c.in_ok-refuse-2.field-0) refl c.in_ok-refuse-2.ensures before_2 c.projects_missing.ensures in
    let before_4 : HasNoneBefore rows ListTooLong =
    refuse_ok rows RepeatInList ListTooLong c.in_ok-repeats_in_lists.field-0
    (Ok c.in_ok-refuse-3.field-0) refl c.in_ok-refuse-3.ensures before_3 c.in_ok-repeats_in_lists.ensures in
    let refusal = refuse_err rows ListTooLong c.lists_too_long.result
    (Err c.in_err-refuse-4.field-0.0) c.in_err-refuse-4.ensures before_4 c.lists_too_long.ensures in
    handed_on c.from_residual-in_err-refuse-4.result _ (λ e. IsRefusal rows e.fault e.row) c.from_residual-in_err-refuse-4.ensures.1 refusal

pub returns-clause-ok : goal.returns-clause-ok
returns-clause-ok c =
    let rows = c.args.rows.now in
    let before_2 : HasNoneBefore rows NoSuchProject =
    refuse_ok rows NoSuchLecturer NoSuchProject c.in_ok-lecturers_missing.field-0
    (Ok c.in_ok-refuse.field-0) refl c.in_ok-refuse.ensures c.requires c.in_ok-lecturers_missing.ensures in
    let before_3 : HasNoneBefore rows RepeatInList =
    refuse_ok rows NoSuchProject RepeatInList c.projects_missing.result
    (Ok c.in_ok-refuse-2.field-0) refl c.in_ok-refuse-2.ensures before_2 c.projects_missing.ensures in
    let before_4 : HasNoneBefore rows ListTooLong =
    refuse_ok rows RepeatInList ListTooLong c.in_ok-repeats_in_lists.field-0
    (Ok c.in_ok-refuse-3.field-0) refl c.in_ok-refuse-3.ensures before_3 c.in_ok-repeats_in_lists.ensures in
    refuse_ok rows ListTooLong NotApplicant c.lists_too_long.result
    (Ok c.in_ok-refuse-4.field-0) refl c.in_ok-refuse-4.ensures before_4 c.lists_too_long.ensures
