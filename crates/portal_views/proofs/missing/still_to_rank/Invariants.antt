use Rattle.portal_views.proofs.Base.{◌≡◌, Gives, HasWholeLists, MayRead, Ok, map, shown_project, take}
use Rattle.portal_views.proofs.Base.{waiting_keys}
use Rattle.portal_views.proofs.missing.still_to_rank.Given as goal

abbrev pub invariant-loop-lecturer : goal.invariant-loop-lecturer
invariant-loop-lecturer g l =
    MayRead l.round g.S.Store (HasWholeLists l.round)
    (Gives (λ db v. v.items ≡ waiting_keys l.round db.trees (map shown_project l.rolls.projects.items)
    (take l.lecturer-index l.rolls.lecturers.items))) (Ok l.keys) l.fn.conn l.conn
