use Rattle.portal_list.proofs.Base.{map, take, AllByRecursion, project_key, IsChoice}
use Rattle.portal_list.proofs.list_checks.choices_fit.Given as goal

abbrev pub invariant-loop-student : goal.invariant-loop-student
invariant-loop-student l = AllByRecursion (λ s. IsChoice (map project_key l.projects) s.choice) (take l.student-index l.students)
