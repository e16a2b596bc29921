use Rattle.portal_reports.proofs.Base.{◌≡◌, ◌++◌, take, flat_map, project_line}
use Rattle.portal_reports.proofs.allocation.put_projects.Given as goal

abbrev pub invariant-loop-project : goal.invariant-loop-project
invariant-loop-project l = l.text.items ≡ l.fn.text.items ++ flat_map (project_line l.view) (take l.project-index l.view.projects)
