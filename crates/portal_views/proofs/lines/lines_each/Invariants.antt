use Rattle.portal_views.proofs.Base.{◌≡◌, Gives, HasTables, MayRead, Ok, Some, applicant_at, first_cell}
use Rattle.portal_views.proofs.Base.{map, take}
use Rattle.portal_views.proofs.lines.lines_each.Given as goal

abbrev pub invariant-loop-row : goal.invariant-loop-row
invariant-loop-row g l =
    MayRead l.round g.S.Store HasTables
    (Gives (λ db v. map Some v.items ≡ map (λ c. applicant_at l.round db.trees (first_cell c)) (take l.row-index l.rows)))
    (Ok l.lines) l.fn.conn l.conn
