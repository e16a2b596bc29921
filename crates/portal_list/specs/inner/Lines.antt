-- The lines that entries stand for: keys as texts, a missing ranking as the empty list.
use Rattle.std.specs.Prelude.{[], map, unwrap_or}
use Rattle.spa_rows.specs.Lines
use Rattle.spa_rows.specs.Lines.{Rows}
use Rattle.portal_rules.specs.World.{Lecturer, Student}
use Rattle.portal_rules.specs.declared.rows.ProjectRow.{ProjectRow}
use Rattle.portal_list.specs.Rows.{AllEntries}

-- no fault of these lines is ever told, so that they need no row
abbrev pub instance_lecturer : Lecturer → Lines.LecturerWithList
instance_lecturer l = record { row = 0; key = l.row.key; capacity = l.row.capacity; list = unwrap_or l.ranking [] }

abbrev pub instance_project : ProjectRow → Lines.ProjectWithLecturer
instance_project p = record { row = 0; key = p.key; capacity = p.capacity; lecturer = p.lecturer }

abbrev pub instance_student : Student → Lines.StudentWithList
instance_student s = record { row = 0; key = s.row.key; list = s.choice }

abbrev pub instance_rows : AllEntries → Rows
instance_rows e = record { lecturers = map instance_lecturer e.lecturers; projects = map instance_project e.projects; students = map instance_student e.students }
