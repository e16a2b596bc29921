-- What rows are decoded to: those of a roll as a query shows them, and with the row's number in
-- front; and those of a list.
use Rattle.std.specs.Prelude.{◌∷◌}
use Rattle.portal_tables.specs.Rows.{lecturer_at, project_at, student_at}
use Rattle.portal_tables.specs.inner.Base.{ℕ, List, [], Option, Some, None, Row, column, bytes, number_in, Key}
use Rattle.portal_tables.specs.inner.Base.{LecturerRow, ProjectRow, StudentRow}

-- one thing or none, as a list
abbrev pub as_list : {X : Type 0} → Option X → List X
as_list None = []
as_list (Some x) = x ∷ []

-- the key that a shown row begins with
abbrev pub first_cell : Row → Key
first_cell c = bytes (column c 0)

abbrev pub shown_lecturer : Row → LecturerRow
shown_lecturer = lecturer_at 0

abbrev pub shown_project : Row → ProjectRow
shown_project = project_at 0

abbrev pub shown_student : Row → StudentRow
shown_student = student_at 0

abbrev pub lecturer_row : Row → LecturerRow
lecturer_row = lecturer_at 1

abbrev pub project_row : Row → ProjectRow
project_row = project_at 1

abbrev pub student_row : Row → StudentRow
student_row = student_at 1

-- the place and the key that a row of a list shows
abbrev pub shown_rank : Row → ℕ
shown_rank c = number_in (column c 0)

abbrev pub shown_name : Row → Key
shown_name c = bytes (column c 1)
