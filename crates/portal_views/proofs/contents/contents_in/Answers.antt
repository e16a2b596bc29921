use Rattle.portal_views.proofs.Base.{Database, HasFineRows, HasReadOf, HasRound, IsDatabase, Round, ap, Err}
use Rattle.portal_views.proofs.Base.{reads_handed, reads_more, reads_open, reads_then, rows_from, state, subst₃, sym}
use Rattle.portal_tables.specs.declared.reading.sorted_rolls.Rolls.{Rolls}
use Rattle.portal_tables.specs.inner.Rolls.{AreRolls}
use Rattle.portal_views.specs.inner.Contents.{HasFineRolls}
use Rattle.portal_views.proofs.Turns.{reads_first, reads_rejected}
use Rattle.portal_views.proofs.Owners.{choices_owned, rankings_owned}
use Rattle.portal_views.proofs.contents.contents_in.Goals as goal

-- what the reading of the tables asks, of the rolls that were read
fine_rows : (round : Round) (db : Database) (rolls : Rolls) → HasRound round db.schema → IsDatabase db
    → AreRolls db.trees rolls → HasFineRolls round db.trees
    → HasFineRows round db.trees rolls.lecturers.items rolls.projects.items rolls.students.items
fine_rows round db rolls own sound are fine =
    subst₃ (HasFineRows round db.trees) (sym are.lecturers_are) (sym are.projects_are) (sym are.students_are)
    (record {
      choices = choices_owned round db own sound fine.rise.students_rise;
      rankings = rankings_owned round db own sound fine.rise.lecturers_rise;
      fine = fine.fine;
    })

pub returns-in_err-rolls : goal.returns-in_err-rolls
returns-in_err-rolls g c =
    reads_handed c.from_residual.ensures.1 (reads_first c.in_err-rolls.ensures) (λ own sound no damaged fine. no damaged (sound, fine.rise))

pub returns-in_err-choices : goal.returns-in_err-choices
returns-in_err-choices g c =
    let read = c.in_err-choices.ensures in
    reads_handed c.from_residual-in_err-choices.ensures.1
    (reads_then (reads_first c.in_ok-rolls.ensures) (reads_open (rw c.deref.ensures.value at read)))
    (λ own sound told damaged fine. let all = fine_rows c.args.round (state g.S.Store c.args.conn.now).now _ own sound told.0 fine in
    told.1 damaged (all.choices, all.fine.choices))

pub returns-in_err-rankings : goal.returns-in_err-rankings
returns-in_err-rankings g c =
    let read = c.in_err-rankings.ensures in
    reads_handed c.from_residual-in_err-rankings.ensures.1
    (reads_then (reads_first c.in_ok-rolls.ensures)
    (reads_then (reads_open c.in_ok-choices.ensures) (reads_open (rw c.deref-2.ensures.value at read))))
    (λ own sound told damaged fine. let all = fine_rows c.args.round (state g.S.Store c.args.conn.now).now _ own sound told.0 fine in
    told.1.1 damaged (all.rankings, all.fine.rankings))

pub returns-in_err-pairs : goal.returns-in_err-pairs
returns-in_err-pairs g c =
    reads_handed c.from_residual-in_err-pairs.ensures.1
    (reads_then (reads_first c.in_ok-rolls.ensures)
    (reads_then (reads_open c.in_ok-choices.ensures)
    (reads_then (reads_open c.in_ok-rankings.ensures) (rw c.deref-3.ensures.value at c.in_err-pairs.ensures))))
    (λ own sound told damaged fine. let all = fine_rows c.args.round (state g.S.Store c.args.conn.now).now _ own sound told.0 fine in
    told.1.1.1 damaged (all.fine.student_forms, all.fine.places))

pub returns-in_err-parts : goal.returns-in_err-parts
returns-in_err-parts g c =
    reads_rejected c.in_err-parts.field-0.0 (λ its. c.in_err-parts.ensures.store (ap Err its)) c.from_residual-in_err-parts.ensures.1
    (reads_then (reads_first c.in_ok-rolls.ensures)
    (reads_then (reads_open c.in_ok-choices.ensures)
    (reads_then (reads_open c.in_ok-rankings.ensures) c.in_ok-pairs.ensures)))
    (λ own sound told damaged fine.
    let all = fine_rows c.args.round (state g.S.Store c.args.conn.now).now _ own sound told.0 fine in
    c.in_err-parts.ensures.damaged (ap Err damaged) all.fine.lecturer_forms all.fine.project_forms all.fine.student_forms)

pub returns : goal.returns
returns g c =
    let db = (state g.S.Store c.args.conn.now).now in
    let round = c.args.round in
    let rolls = c.in_ok-rolls.rolls in
    let from = rows_from round db.trees rolls.lecturers.items rolls.projects.items rolls.students.items in
    let choices = c.in_ok-choices.ensures in
    let rankings = c.in_ok-rankings.ensures in
    let parts = c.in_ok-parts.ensures in
    reads_more tt
    (reads_then (reads_first c.in_ok-rolls.ensures)
    (reads_then (reads_open (rw c.deref.ensures.value at choices))
    (reads_then (reads_open (rw c.deref-2.ensures.value at rankings)) (rw c.deref-3.ensures.value at c.in_ok-pairs.ensures))))
    (λ own sound told. let it = told.0 in subst₃ (HasReadOf round _ db.trees) it.lecturers_are it.projects_are it.students_are (
      λ i. record from {
        lecturers = parts.lecturers i;
        projects = parts.projects i;
        students = parts.students i;
        choices = told.1.0.are i;
        rankings = told.1.1.0.are i;
        pairs = told.1.1.1 i;
      },
      record { choices = told.1.0.read; rankings = told.1.1.0.read },
    ))
