use Rattle.portal_views.proofs.Base.{ap, Err, reads_handed, reads_more, reads_open, reads_then, state, student_shown}
use Rattle.portal_views.proofs.Turns.{reads_any, reads_rejected}
use Rattle.portal_views.proofs.student.student_view.Goals as goal

pub returns-in_err-choices : goal.returns-in_err-choices
returns-in_err-choices g c =
    let read = c.in_err-choices.ensures in
    reads_handed c.from_residual-in_err-choices.ensures.1 (reads_open (reads_any (rw c.in_ok-student.ensures.ok at read)))
    (λ own sound no damaged fine. no damaged (record { whole = fine.whole; keys = fine.names }))

pub returns-in_err-place : goal.returns-in_err-place
returns-in_err-place g c =
    reads_handed c.from_residual-in_err-place.ensures.1 (reads_then (reads_open (reads_any c.in_ok-choices.ensures)) c.in_err-place.ensures)
    (λ own sound told damaged fine. told.1 damaged (fine.first, fine.place))

pub returns-in_err-person_at : goal.returns-in_err-person_at
returns-in_err-person_at g c =
    reads_rejected c.in_err-person_at.field-0.0
    (λ its. c.in_err-person_at.ensures.store (ap Err its)) c.from_residual-in_err-person_at.ensures.1
    (reads_then (reads_open (reads_any c.in_ok-choices.ensures)) c.in_ok-place.ensures)
    (λ own sound told damaged fine. c.in_err-person_at.ensures.damaged (ap Err damaged) fine.person)

pub returns : goal.returns
returns g c =
    let from = student_shown c.args.round (state g.S.Store c.args.conn.now).now.trees c.args.phase c.args.row.now
    c.args.catalogue.value.items in
    let read = c.in_ok-choices.ensures in
    reads_more tt (reads_then (reads_open (reads_any (rw c.in_ok-student.ensures.ok at read))) c.in_ok-place.ensures)
    (λ own sound told i. record from { me = c.in_ok-person_at.ensures.ok i; choices = told.0.are i; result = told.1 i })
