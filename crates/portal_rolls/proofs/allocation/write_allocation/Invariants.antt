use Rattle.portal_rolls.proofs.Base.{◌++◌, take, flat_map, csv_record, csv_header, student_fields, HasWritten}
use Rattle.portal_rolls.proofs.allocation.write_allocation.Given as goal

abbrev pub invariant-loop-student : goal.invariant-loop-student
invariant-loop-student l =
    HasWritten l.writer (csv_record csv_header
    ++ flat_map (λ s. csv_record (student_fields l.view s)) (take l.student-index l.view.students))
