use Rattle.portal_views.proofs.Base.{AreStudentsOf, Gives, HasTables, MayRead, Ok, take}
use Rattle.portal_views.proofs.applicants.project_students.Given as goal

abbrev pub invariant-loop-project : goal.invariant-loop-project
invariant-loop-project g l =
    MayRead l.round g.S.Store HasTables
    (Gives (λ db. AreStudentsOf l.round db.trees l.phase (take l.project-index l.projects))) (Ok l.told) l.fn.conn l.conn
