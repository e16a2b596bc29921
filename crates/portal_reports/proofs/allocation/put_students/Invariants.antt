use Rattle.portal_reports.proofs.Base.{◌≡◌, ◌++◌, take, flat_map, student_line}
use Rattle.portal_reports.proofs.allocation.put_students.Given as goal

abbrev pub invariant-loop-student : goal.invariant-loop-student
invariant-loop-student l = l.text.items ≡ l.fn.text.items ++ flat_map (student_line l.view) (take l.student-index l.view.students)
