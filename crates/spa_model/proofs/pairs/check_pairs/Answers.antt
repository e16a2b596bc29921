use Rattle.spa_model.proofs.Base.{on_ok_weaker, NoSuchStudent, NoSuchProject, NotAcceptable, StudentTwice, ProjectOver}
use Rattle.spa_model.proofs.Base.{LecturerOver, err_from_is_err_and, MatchResult-weaker}
use Rattle.spa_model.proofs.FirstFault.{none_below_one, none_below_more, first_fault, sound_pairs}
use Rattle.spa_model.proofs.pairs.check_pairs.Goals as goal

pub returns-in_err-refuse_pairs-clause-err : goal.returns-in_err-refuse_pairs-clause-err
returns-in_err-refuse_pairs-clause-err c =
    let told = err_from_is_err_and c.from_residual.result c.from_residual.ensures.1 in
    rw (told.1, told.2) (first_fault c.args.instance.now c.args.lines.now NoSuchStudent _ _ _
    (none_below_one c.args.instance.now c.args.lines.now) c.no_such_student-unknown.ensures.least c.in_err-refuse_pairs.ensures.err)

pub returns-in_err-refuse_pairs-2-clause-err : goal.returns-in_err-refuse_pairs-2-clause-err
returns-in_err-refuse_pairs-2-clause-err c =
    let below_2 = none_below_more c.args.instance.now c.args.lines.now NoSuchStudent _
    (none_below_one c.args.instance.now c.args.lines.now) c.no_such_student-unknown.ensures.least c.in_ok-refuse_pairs.ensures.ok in
    let told = err_from_is_err_and c.from_residual-in_err-refuse_pairs-2.result c.from_residual-in_err-refuse_pairs-2.ensures.1 in
    rw (told.1, told.2) (first_fault c.args.instance.now c.args.lines.now NoSuchProject _ _ _ below_2
    c.no_such_project-unknown.ensures.least c.in_err-refuse_pairs-2.ensures.err)

pub returns-in_err-refuse_pairs-3-clause-err : goal.returns-in_err-refuse_pairs-3-clause-err
returns-in_err-refuse_pairs-3-clause-err c =
    let below_2 = none_below_more c.args.instance.now c.args.lines.now NoSuchStudent _
    (none_below_one c.args.instance.now c.args.lines.now) c.no_such_student-unknown.ensures.least c.in_ok-refuse_pairs.ensures.ok in
    let below_3 = none_below_more c.args.instance.now c.args.lines.now NoSuchProject _ below_2 c.no_such_project-unknown.ensures.least
    c.in_ok-refuse_pairs-2.ensures.ok in
    let told = err_from_is_err_and c.from_residual-in_err-refuse_pairs-3.result c.from_residual-in_err-refuse_pairs-3.ensures.1 in
    rw (told.1, told.2) (first_fault c.args.instance.now c.args.lines.now NotAcceptable _ _ _ below_3 c.not_acceptable-unlisted.ensures
    c.in_err-refuse_pairs-3.ensures.err)

pub returns-in_err-refuse_pairs-4-clause-err : goal.returns-in_err-refuse_pairs-4-clause-err
returns-in_err-refuse_pairs-4-clause-err c =
    let below_2 = none_below_more c.args.instance.now c.args.lines.now NoSuchStudent _
    (none_below_one c.args.instance.now c.args.lines.now) c.no_such_student-unknown.ensures.least c.in_ok-refuse_pairs.ensures.ok in
    let below_3 = none_below_more c.args.instance.now c.args.lines.now NoSuchProject _ below_2 c.no_such_project-unknown.ensures.least
    c.in_ok-refuse_pairs-2.ensures.ok in
    let below_4 = none_below_more c.args.instance.now c.args.lines.now NotAcceptable _ below_3 c.not_acceptable-unlisted.ensures
    c.in_ok-refuse_pairs-3.ensures.ok in
    let told = err_from_is_err_and c.from_residual-in_err-refuse_pairs-4.result c.from_residual-in_err-refuse_pairs-4.ensures.1 in
    rw (told.1, told.2) (first_fault c.args.instance.now c.args.lines.now StudentTwice _ _ _ below_4 c.in_ok-again.ensures
    c.in_err-refuse_pairs-4.ensures.err)

pub returns-in_err-refuse_pairs-5-clause-err : goal.returns-in_err-refuse_pairs-5-clause-err
returns-in_err-refuse_pairs-5-clause-err c =
    let below_2 = none_below_more c.args.instance.now c.args.lines.now NoSuchStudent _
    (none_below_one c.args.instance.now c.args.lines.now) c.no_such_student-unknown.ensures.least c.in_ok-refuse_pairs.ensures.ok in
    let below_3 = none_below_more c.args.instance.now c.args.lines.now NoSuchProject _ below_2 c.no_such_project-unknown.ensures.least
    c.in_ok-refuse_pairs-2.ensures.ok in
    let below_4 = none_below_more c.args.instance.now c.args.lines.now NotAcceptable _ below_3 c.not_acceptable-unlisted.ensures
    c.in_ok-refuse_pairs-3.ensures.ok in
    let below_5 = none_below_more c.args.instance.now c.args.lines.now StudentTwice _ below_4 c.in_ok-again.ensures
    c.in_ok-refuse_pairs-4.ensures.ok in
    let told = err_from_is_err_and c.from_residual-in_err-refuse_pairs-5.result c.from_residual-in_err-refuse_pairs-5.ensures.1 in
    rw (told.1, told.2) (first_fault c.args.instance.now c.args.lines.now ProjectOver _ _ _ below_5 c.in_ok-over.ensures
    c.in_err-refuse_pairs-5.ensures.err)

pub returns-clause-ok : goal.returns-clause-ok
returns-clause-ok c =
    let below_2 = none_below_more c.args.instance.now c.args.lines.now NoSuchStudent _
    (none_below_one c.args.instance.now c.args.lines.now) c.no_such_student-unknown.ensures.least c.in_ok-refuse_pairs.ensures.ok in
    let below_3 = none_below_more c.args.instance.now c.args.lines.now NoSuchProject _ below_2 c.no_such_project-unknown.ensures.least
    c.in_ok-refuse_pairs-2.ensures.ok in
    let below_4 = none_below_more c.args.instance.now c.args.lines.now NotAcceptable _ below_3 c.not_acceptable-unlisted.ensures
    c.in_ok-refuse_pairs-3.ensures.ok in
    let below_5 = none_below_more c.args.instance.now c.args.lines.now StudentTwice _ below_4 c.in_ok-again.ensures
    c.in_ok-refuse_pairs-4.ensures.ok in
    let below_6 = none_below_more c.args.instance.now c.args.lines.now ProjectOver _ below_5 c.in_ok-over.ensures
    c.in_ok-refuse_pairs-5.ensures.ok in
    on_ok_weaker c.refuse_pairs-6.result (λ none. sound_pairs c.args.instance.now c.args.lines.now
    (none_below_more c.args.instance.now c.args.lines.now LecturerOver _ below_6 c.in_ok-over-2.ensures none))
    c.refuse_pairs-6.ensures.ok

pub returns-clause-err : goal.returns-clause-err
returns-clause-err c =
    let below_2 = none_below_more c.args.instance.now c.args.lines.now NoSuchStudent _
    (none_below_one c.args.instance.now c.args.lines.now) c.no_such_student-unknown.ensures.least c.in_ok-refuse_pairs.ensures.ok in
    let below_3 = none_below_more c.args.instance.now c.args.lines.now NoSuchProject _ below_2 c.no_such_project-unknown.ensures.least
    c.in_ok-refuse_pairs-2.ensures.ok in
    let below_4 = none_below_more c.args.instance.now c.args.lines.now NotAcceptable _ below_3 c.not_acceptable-unlisted.ensures
    c.in_ok-refuse_pairs-3.ensures.ok in
    let below_5 = none_below_more c.args.instance.now c.args.lines.now StudentTwice _ below_4 c.in_ok-again.ensures
    c.in_ok-refuse_pairs-4.ensures.ok in
    let below_6 = none_below_more c.args.instance.now c.args.lines.now ProjectOver _ below_5 c.in_ok-over.ensures
    c.in_ok-refuse_pairs-5.ensures.ok in
    MatchResult-weaker c.refuse_pairs-6.result c.refuse_pairs-6.ensures.err (λ _ _. tt)
    (λ e told. first_fault c.args.instance.now c.args.lines.now LecturerOver _ _ _ below_6 c.in_ok-over-2.ensures told)
