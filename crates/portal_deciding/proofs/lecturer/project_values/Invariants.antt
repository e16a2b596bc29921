use Rattle.portal_rules.proofs.Base.{◌≡◌, map, take, by_project, data_of}
use Rattle.portal_rules.specs.inner.Room.{project_and_persons}
use Rattle.portal_deciding.proofs.lecturer.project_values.Given as goal

abbrev pub invariant-loop-project : goal.invariant-loop-project
invariant-loop-project l = map data_of l.values.items ≡ map (project_and_persons l.name) (by_project (take l.project-index l.projects))
