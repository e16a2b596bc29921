use Rattle.portal_views.proofs.Base.{◌≡◌, map, take, filter, is_at}
use Rattle.portal_views.proofs.applicants.placed_at.Given as goal

abbrev pub invariant-loop-line : goal.invariant-loop-line
invariant-loop-line l = l.found.items ≡ map (λ x. x.person) (filter (λ x. is_at l.project x.placed) (take l.line-index l.lines))
