-- What the fields of a record say, and the records of an instance file and of the three rolls.
use Rattle.std.specs.Prelude.{◌+◌, ◌*◌, ◌-◌, ◌==◌, ◌&&◌, ℕ, Bool, not, List, [], ◌∷◌, length, Option, Some, None}
use Rattle.std.specs.Prelude.{Result, Ok, Err, nat_le, if◌then◌else◌, fold, codes}
use Rattle.std.specs.Char.{is_ascii_digit}
use Rattle.std.specs.List.{list_all, position_from, filter_map}
use Rattle.spa_rows.specs.Limits.{most_lecturers, most_projects, most_students, most_places}
use Rattle.spa_rows.specs.Lines.{Text, LecturerWithList, ProjectWithLecturer, StudentWithList, Pair, is_key}
use Rattle.portal_rolls.specs.declared.fault.RollFault.{RollFault}
use Rattle.portal_rolls.specs.declared.fault.RollFault.TheVariants as fault
use Rattle.portal_rolls.specs.Reading.{Record, records_of, Format, unless, lines_of}
use Rattle.portal_rolls.specs.declared.line.FileLine.{FileLine}
use Rattle.portal_rolls.specs.declared.line.FileLine.TheVariants as variant
use Rattle.portal_rolls.specs.declared.instance.Mark.{Mark}
use Rattle.portal_rolls.specs.declared.instance.Mark.TheVariants as mark
use Rattle.portal_rules.specs.Words.{is_code, is_name}
use Rattle.portal_rules.specs.declared.rows.LecturerRow.{LecturerRow}
use Rattle.portal_rules.specs.declared.rows.ProjectRow.{ProjectRow}
use Rattle.portal_rules.specs.declared.rows.StudentRow.{StudentRow}

-- 1 to 7 decimal digits
abbrev pub is_number : Text → Bool
is_number text = nat_le 1 (length text) && (nat_le (length text) 7 && list_all is_ascii_digit text)

abbrev pub digits_value : Text → ℕ
digits_value text = fold (λ n d. n * 10 + (d - 48)) 0 text

-- a capacity on a roll is a number in the range of capacities
abbrev pub is_capacity : Text → Bool
is_capacity text = is_number text && (nat_le 1 (digits_value text) && nat_le (digits_value text) most_places)

-- the line, or the fault of the bad column
abbrev pub unless_bad : {X : Type 0} → ℕ → Option ℕ → X → Result X RollFault
unless_bad row None line = Ok line
unless_bad row (Some column) line = Err (fault.BadField row column)

-- the line if each column has its form, else the fault of the leftmost bad one, counted from 1
abbrev pub by_columns : {X : Type 0} → ℕ → List Bool → X → Result X RollFault
by_columns row forms line = unless_bad row (position_from not 1 forms) line

-- adds a byte at the front of the first piece
abbrev pub with_front : ℕ → List Text → List Text
with_front b [] = (b ∷ []) ∷ []
with_front b (piece ∷ pieces) = (b ∷ piece) ∷ pieces

-- cuts a text at each single blank
abbrev pub cut_at_blanks : Text → List Text
cut_at_blanks [] = [] ∷ []
cut_at_blanks (b ∷ text) = if b == 32 then [] ∷ cut_at_blanks text else with_front b (cut_at_blanks text)

-- an empty field is the empty list
abbrev pub list_of : Text → List Text
list_of [] = []
list_of (b ∷ text) = cut_at_blanks (b ∷ text)

-- the first field of a record: `L`, `P`, `S` or `M`
abbrev pub mark_of : Text → Option Mark
mark_of (b ∷ []) = if b == 76 then Some mark.Lecturer else if b == 80 then Some mark.Project
    else if b == 83 then Some mark.Student else if b == 77 then Some mark.Pair else None
mark_of _ = None

-- the line of a record by its kind and the three fields after it
abbrev pub line_at : Option Mark → ℕ → Text → Text → Text → Result FileLine RollFault
line_at None row key value list = Err (fault.BadField row 1)
line_at (Some mark.Lecturer) row key value list =
    unless (is_number value) (fault.BadField row 3)
    (Ok (variant.Lecturer (record { row = row; key = key; capacity = digits_value value; list = list_of list })))
line_at (Some mark.Project) row key value list =
    unless (is_number value) (fault.BadField row 3)
    (Ok (variant.Project (record { row = row; key = key; capacity = digits_value value; lecturer = list })))
line_at (Some mark.Student) row key value list =
    unless (length value == 0) (fault.BadField row 3)
    (Ok (variant.Student (record { row = row; key = key; list = list_of list })))
line_at (Some mark.Pair) row key value list =
    unless (length list == 0) (fault.BadField row 4)
    (Ok (variant.Pair (record { row = row; student = key; project = value })))

abbrev pub says : ℕ → Record → Result FileLine RollFault
says row (kind ∷ key ∷ value ∷ list ∷ []) = line_at (mark_of kind) row key value list
says row _ = Err (fault.FieldCount row)

abbrev pub instance_file : Format FileLine
instance_file = record {
  header = codes "kind" ∷ codes "key" ∷ codes "value" ∷ codes "list" ∷ [];
  limit = most_lecturers + most_projects + 2 * most_students;
  says = says;
}

-- the lines of each kind

abbrev pub as_lecturer : FileLine → Option LecturerWithList
as_lecturer (variant.Lecturer x) = Some x
as_lecturer _ = None

abbrev pub as_project : FileLine → Option ProjectWithLecturer
as_project (variant.Project x) = Some x
as_project _ = None

abbrev pub as_student : FileLine → Option StudentWithList
as_student (variant.Student x) = Some x
as_student _ = None

abbrev pub as_pair : FileLine → Option Pair
as_pair (variant.Pair x) = Some x
as_pair _ = None

-- the lines of a file by kind, each kind in the order of the file
pub record File : Type 0 where
  pub lecturers : List LecturerWithList
  pub projects : List ProjectWithLecturer
  pub students : List StudentWithList
  pub pairs : List Pair

abbrev pub file_of : List FileLine → File
file_of lines = record {
  lecturers = filter_map as_lecturer lines;
  projects = filter_map as_project lines;
  students = filter_map as_student lines;
  pairs = filter_map as_pair lines;
}

-- the lines by kind, or the fault
abbrev pub as_file : Result (List FileLine) RollFault → Result File RollFault
as_file (Ok lines) = Ok (file_of lines)
as_file (Err e) = Err e

-- what an instance file says, or its first fault
abbrev pub rows : Text → Result File RollFault
rows text = as_file (lines_of instance_file (records_of text))

abbrev pub lecturer : ℕ → Record → Result LecturerRow RollFault
lecturer row (key ∷ name ∷ code ∷ capacity ∷ []) =
    by_columns row (is_key key ∷ is_name name ∷ is_code code ∷ is_capacity capacity ∷ [])
    (record { key = key; name = name; code = code; capacity = digits_value capacity })
lecturer row _ = Err (fault.FieldCount row)

abbrev pub project : ℕ → Record → Result ProjectRow RollFault
project row (key ∷ lecturer ∷ title ∷ capacity ∷ []) =
    by_columns row (is_key key ∷ is_key lecturer ∷ is_name title ∷ is_capacity capacity ∷ [])
    (record { key = key; lecturer = lecturer; title = title; capacity = digits_value capacity })
project row _ = Err (fault.FieldCount row)

abbrev pub student : ℕ → Record → Result StudentRow RollFault
student row (key ∷ name ∷ code ∷ []) =
    by_columns row (is_key key ∷ is_name name ∷ is_code code ∷ []) (record { key = key; name = name; code = code })
student row _ = Err (fault.FieldCount row)

abbrev pub lecturer_format : Format LecturerRow
lecturer_format = record {
  header = codes "id" ∷ codes "name" ∷ codes "code" ∷ codes "capacity" ∷ [];
  limit = most_lecturers;
  says = lecturer;
}

abbrev pub project_format : Format ProjectRow
project_format = record {
  header = codes "id" ∷ codes "lecturer" ∷ codes "title" ∷ codes "capacity" ∷ [];
  limit = most_projects;
  says = project;
}

abbrev pub student_format : Format StudentRow
student_format = record {
  header = codes "id" ∷ codes "name" ∷ codes "code" ∷ [];
  limit = most_students;
  says = student;
}

-- the rows of a roll, or its first fault

abbrev pub lecturers : Text → Result (List LecturerRow) RollFault
lecturers text = lines_of lecturer_format (records_of text)

abbrev pub projects : Text → Result (List ProjectRow) RollFault
projects text = lines_of project_format (records_of text)

abbrev pub students : Text → Result (List StudentRow) RollFault
students text = lines_of student_format (records_of text)
