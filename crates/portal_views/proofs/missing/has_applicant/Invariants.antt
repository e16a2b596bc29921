use Rattle.portal_views.proofs.Base.{◌≡◌, Gives, HasWholeLists, MayRead, Ok, drop, false, first_cell}
use Rattle.portal_views.proofs.Base.{is_wanted_shown, map, shown_project}
use Rattle.portal_views.proofs.missing.has_applicant.Given as goal

abbrev pub invariant-loop-project : goal.invariant-loop-project
invariant-loop-project g l =
    MayRead l.round g.S.Store (HasWholeLists l.round)
    (Gives (λ db _. is_wanted_shown l.round db.trees (map shown_project (drop l.project-index l.projects)) (first_cell l.lecturer)
    ≡ is_wanted_shown l.round db.trees (map shown_project l.projects) (first_cell l.lecturer))) (Ok false) l.fn.conn l.conn
