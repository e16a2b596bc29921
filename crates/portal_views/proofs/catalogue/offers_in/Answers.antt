use Rattle.portal_views.proofs.Base.{◌∙◌, AllByRecursion, IsLecturer, ap, Err, map, reads_handed, reads_more}
use Rattle.portal_views.proofs.Base.{reads_open, reads_then, shown_lecturer, shown_project, subst, sym, IsProject}
use Rattle.portal_views.proofs.Turns.{reads_rejected}
use Rattle.portal_views.proofs.catalogue.offers_in.Goals as goal

pub returns-in_err-projects : goal.returns-in_err-projects
returns-in_err-projects g c =
    reads_handed c.from_residual-in_err-projects.ensures.1 (reads_then c.in_ok-lecturers.ensures (reads_open c.in_err-projects.ensures))
    (λ own any told damaged offers. told.1 damaged (offers.sound, offers.projects_rise))

pub returns-in_err-decode_rows : goal.returns-in_err-decode_rows
returns-in_err-decode_rows g c =
    reads_rejected c.in_err-decode_rows.field-0.0
    (λ its. c.in_err-decode_rows.ensures.store (ap Err its)) c.from_residual-in_err-decode_rows.ensures.1
    (reads_then c.in_ok-lecturers.ensures (reads_open c.in_ok-projects.ensures))
    (λ own any told damaged offers. c.in_err-decode_rows.ensures.damaged (ap Err damaged)
    (subst (AllByRecursion (λ r. IsLecturer (shown_lecturer r))) (sym (c.deref.ensures.value ∙ told.0)) offers.lecturers))

pub returns-in_err-decode_rows-2 : goal.returns-in_err-decode_rows-2
returns-in_err-decode_rows-2 g c =
    reads_rejected c.in_err-decode_rows-2.field-0.0
    (λ its. c.in_err-decode_rows-2.ensures.store (ap Err its)) c.from_residual-in_err-decode_rows-2.ensures.1
    (reads_then c.in_ok-lecturers.ensures (reads_open c.in_ok-projects.ensures))
    (λ own any told damaged offers. c.in_err-decode_rows-2.ensures.damaged (ap Err damaged)
    (subst (AllByRecursion (λ r. IsProject (shown_project r))) (sym (c.deref-2.ensures.value ∙ told.1)) offers.projects))

pub returns : goal.returns
returns g c =
    reads_more tt (reads_then c.in_ok-lecturers.ensures (reads_open c.in_ok-projects.ensures))
    (λ own any told. (
      c.in_ok-decode_rows.ensures.ok ∙ ap (map shown_lecturer) (c.deref.ensures.value ∙ told.0),
      c.in_ok-decode_rows-2.ensures.ok ∙ ap (map shown_project) (c.deref-2.ensures.value ∙ told.1),
    ))
