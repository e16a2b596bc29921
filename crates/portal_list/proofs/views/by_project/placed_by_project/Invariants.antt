use Rattle.portal_list.proofs.Base.{◌≡◌, take, map, placements_shown}
use Rattle.portal_list.proofs.views.by_project.placed_by_project.Given as goal

abbrev pub invariant-loop-project : goal.invariant-loop-project
invariant-loop-project l = map (λ p. (p.0, p.1.items)) l.found.items
    ≡ placements_shown l.phase l.students l.lecturer (take l.project-index l.projects)
