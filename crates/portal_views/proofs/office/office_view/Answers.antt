use Rattle.portal_tables.proofs.InTurn.{not_stores}
use Rattle.portal_views.proofs.Base.{◌∙◌, AreReadable, Database, Err, HasFirstPlace, HasKeyForm, HasPlacement}
use Rattle.portal_views.proofs.Base.{HasPlacementAsked, IfOk-weaker, IsLecturer, IsStudent, Lecturers, Projects, Round}
use Rattle.portal_views.proofs.Base.{Some, Students, all_two, all_weaker, ap, judged, office_sees_with, reads_handed}
use Rattle.portal_views.proofs.Base.{reads_more, reads_open, reads_then, shown_lecturer, shown_student, state, subst₃}
use Rattle.portal_views.proofs.Base.{sym}
use Rattle.portal_tables.specs.declared.reading.sorted_rolls.Rolls.{Rolls}
use Rattle.portal_tables.specs.inner.Rolls.{AreRolls}
use Rattle.portal_views.specs.inner.Office.{IsReadableByOffice}
use Rattle.portal_views.proofs.OfficeLists.{reads_whole}
use Rattle.portal_views.proofs.Turns.{reads_first}
use Rattle.portal_views.proofs.OneKey.{roll_keys_rise}
use Rattle.portal_views.proofs.office.office_view.Goals as goal

-- what the reading of the tables asks, of the rolls that were read
readable : (round : Round) (db : Database) (rolls : Rolls) → AreRolls db.trees rolls → IsReadableByOffice round db
    → AreReadable round rolls.lecturers.items rolls.projects.items rolls.students.items db
readable round db rolls are fine = subst₃ (λ ls ps ss. AreReadable round ls ps ss db) (sym are.lecturers_are) (sym are.projects_are)
    (sym are.students_are) fine

pub returns-in_err-rolls : goal.returns-in_err-rolls
returns-in_err-rolls g c =
    let db = (state g.S.Store c.args.conn.now).now in
    reads_handed c.from_residual.ensures.1 (reads_first c.in_err-rolls.ensures)
    (λ own lists no damaged fine. let tables = lists.tables in no damaged (
      tables.sound,
      record {
        lecturers_rise = roll_keys_rise db Lecturers tables.current tables.sound tables.apart.1.0;
        projects_rise = roll_keys_rise db Projects tables.current tables.sound tables.apart.1.1.0;
        students_rise = roll_keys_rise db Students tables.current tables.sound tables.apart.1.1.1.0;
      },
    ))

pub returns-in_err-unlisted : goal.returns-in_err-unlisted
returns-in_err-unlisted g c =
    let rolls = c.in_ok-rolls.rolls in
    reads_handed c.from_residual-in_err-unlisted.ensures.1
    (reads_then (reads_first c.in_ok-rolls.ensures) (reads_open (rw c.deref.ensures.value at c.in_err-unlisted.ensures)))
    (λ own lists told damaged fine. told.1 damaged
    (all_weaker (λ r. IsStudent (shown_student r)) HasKeyForm (λ r is. is.key) rolls.students.items
    (readable c.args.round (state g.S.Store c.args.conn.now).now rolls told.0 fine).student_forms))

pub returns-in_err-waiting : goal.returns-in_err-waiting
returns-in_err-waiting g c =
    let rolls = c.in_ok-rolls.rolls in
    let f = c.in_err-waiting in
    reads_handed c.from_residual-in_err-waiting.ensures.1
    (reads_then (reads_first c.in_ok-rolls.ensures) (reads_then (reads_open c.in_ok-unlisted.ensures) f.ensures.reads))
    (λ own lists told damaged fine. f.ensures.damaged (ap Err damaged)
    (all_weaker (λ r. IsLecturer (shown_lecturer r)) HasKeyForm (λ r is. is.key) rolls.lecturers.items
    (readable c.args.round (state g.S.Store c.args.conn.now).now rolls told.0 fine).lecturer_forms))

pub returns-in_err-pairs : goal.returns-in_err-pairs
returns-in_err-pairs g c =
    let db = (state g.S.Store c.args.conn.now).now in
    let rolls = c.in_ok-rolls.rolls in
    let round = c.args.round in
    let read = reads_whole c.in_err-pairs.ensures in
    reads_handed c.from_residual-in_err-pairs.ensures.1
    (reads_then (reads_first c.in_ok-rolls.ensures)
    (reads_then (reads_open c.in_ok-unlisted.ensures) (reads_then c.in_ok-waiting.ensures.reads (rw c.deref-2.ensures.value at read))))
    (λ own lists told damaged fine. let is = readable round db rolls told.0 fine in told.1.1.1 damaged (
      is.student_forms,
      all_two HasFirstPlace (HasPlacement round db.trees) (HasPlacementAsked round (Some c.args.office.phase) db.trees)
          (λ r first place. (first, place)) rolls.students.items is.first is.places,
    ))

pub returns : goal.returns
returns g c =
    let r = c.office_view_from.result in
    let db = (state g.S.Store c.args.conn.now).now in
    let rolls = c.in_ok-rolls.rolls in
    let round = c.args.round in
    let sees = office_sees_with round db.trees c.args.office.phase c.args.office.code c.args.catalogue.value.items in
    let read = reads_whole c.in_ok-pairs.ensures in
    reads_more (not_stores r c.office_view_from.ensures.store)
    (reads_then (reads_first c.in_ok-rolls.ensures)
    (reads_then (reads_open (rw c.deref.ensures.value at c.in_ok-unlisted.ensures))
    (reads_then c.in_ok-waiting.ensures.reads (rw c.deref-2.ensures.value at read))))
    (λ own lists told.
    let it = told.0 in
    judged r _ _
    (IfOk-weaker r _ _
    (λ v is. is ∙ (λ i. record (sees rolls.lecturers.items rolls.projects.items rolls.students.items) {
      without_list = told.1.0 i;
      still_to_rank = told.1.1.0 i;
      pairs = told.1.1.1 i;
    })
    ∙ (λ i. sees (it.lecturers_are i) (it.projects_are i) (it.students_are i))) c.office_view_from.ensures.ok)
    (λ damaged fine. let is = readable round db rolls it fine in
    c.office_view_from.ensures.damaged damaged is.lecturer_forms is.project_forms is.student_forms))
