use Rattle.portal_views.proofs.Base.{◌≡◌, project_left, take, filter_map}
use Rattle.portal_views.proofs.catalogue.projects_left.Given as goal

abbrev pub invariant-loop-project : goal.invariant-loop-project
invariant-loop-project l = l.found.items ≡ filter_map (project_left l.pairs) (take l.project-index l.projects)
