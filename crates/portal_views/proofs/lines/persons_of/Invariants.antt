use Rattle.portal_views.proofs.Base.{◌≡◌, map, take}
use Rattle.portal_views.proofs.lines.persons_of.Given as goal

abbrev pub invariant-loop-line : goal.invariant-loop-line
invariant-loop-line l = l.found.items ≡ map (λ x. x.person) (take l.line-index l.lines)
