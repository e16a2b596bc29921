-- What the statements put into the tables.
use Rattle.std.specs.Prelude.{◌≡◌, if◌then◌else◌, ◌∷◌}
use Rattle.portal_tables.specs.inner.Base.{ℕ, ℤ, pos, List, [], map, filter, length, Option, Some, None, flat_map}
use Rattle.portal_tables.specs.inner.Base.{is_eq, Value, Null, Int, Words, Row, column, value_cmp, Database, IsDatabase}
use Rattle.portal_tables.specs.inner.Base.{Ghosts, Held, state, Key, LecturerRow, ProjectRow, StudentRow, Phase, Round}
use Rattle.portal_tables.specs.inner.Base.{First, Second}
use Rattle.portal_tables.specs.declared.sql.insert.lists.NewPlace.{NewPlace}
use Rattle.portal_tables.specs.Tables.{portal_tree, lecturer_tree, student_tree, second_tree, IsCurrentSchema}
use Rattle.portal_tables.specs.Running.{Ran, Made}
use Rattle.portal_tables.specs.Rows.{RowNumbersDiffer, has_text, portal_row, second_row, number_of_phase}
use Rattle.portal_tables.specs.inner.Changes.{InsertsRows, Drops, Sets, Alters, Becomes, columns}

-- the cells of the one row of `portal` and of `second` after its number
abbrev pub portal_cells : ℤ → ℤ → List ℕ → Row
portal_cells version phase office = Null ∷ Int version ∷ Int phase ∷ Words office ∷ []

abbrev pub second_cells : ℤ → Row
second_cells phase = Null ∷ Int phase ∷ []

-- a student's key, and the project to assign to the student, or none
abbrev pub Assigned : Type 0
Assigned = List ℕ × Option (List ℕ)

abbrev pub lecturer_cells : List ℕ → List ℕ → List ℕ → ℤ → ℤ → Row
lecturer_cells key name code capacity ranked = Words key ∷ Words name ∷ Words code ∷ Int capacity ∷ Int ranked ∷ []

abbrev pub project_cells : List ℕ → List ℕ → List ℕ → ℤ → Row
project_cells key lecturer title capacity = Words key ∷ Words lecturer ∷ Words title ∷ Int capacity ∷ []

abbrev pub student_cells : List ℕ → List ℕ → List ℕ → Value → Row
student_cells key name code assigned = Words key ∷ Words name ∷ Words code ∷ assigned ∷ []

abbrev pub place_cells : List ℕ → ℤ → List ℕ → Row
place_cells owner place item = Words owner ∷ Int place ∷ Words item ∷ []

-- The cells of rows to come, and the values that their texts are given where those are fewer: a
-- lecturer of whom no ranking is there yet, a project, a student who is assigned to none, and a
-- place of a list.
abbrev pub lecturer_new : LecturerRow → Row
lecturer_new r = lecturer_cells r.key r.name r.code (pos r.capacity) (pos 0)

abbrev pub lecturer_values : LecturerRow → Row
lecturer_values r = Words r.key ∷ Words r.name ∷ Words r.code ∷ Int (pos r.capacity) ∷ []

abbrev pub project_new : ProjectRow → Row
project_new r = project_cells r.key r.lecturer r.title (pos r.capacity)

abbrev pub student_new : StudentRow → Row
student_new r = student_cells r.key r.name r.code Null

abbrev pub student_values : StudentRow → Row
student_values r = Words r.key ∷ Words r.name ∷ Words r.code ∷ []

abbrev pub place_new : NewPlace → Row
place_new r = place_cells r.owner.now (pos r.place) r.item.now

-- the cells of a pair of a student and a project, in the result of the second round
abbrev pub pair_new : Key × Key → Row
pair_new p = Words p.0 ∷ Words p.1 ∷ []

-- rows with these cells come to a table of the portal's own
abbrev pub Adds : ℕ → List Row → Database → Database → Type 0
Adds tree cells old new = IsCurrentSchema old.schema → InsertsRows tree cells old new

-- a text that adds so many rows to the table, where it is run with the values of one after the
-- other
abbrev pub AddsBy : {S R : Type 0} → Ghosts S → List ℕ → ℕ → ℕ → (R → Row) → (R → Row) → Type 0
AddsBy {S} {R} g text count tree values cells =
    (rows : List R) → length rows ≡ count → (old new : Held S)
    → Ran text (flat_map values rows) (state g old) (state g new)
    → Made (Adds tree (map cells rows)) (state g old) (state g new)

-- the rows with this key in their first column are gone
abbrev pub Clears : ℕ → List ℕ → Database → Database → Type 0
Clears tree key old new =
    IsCurrentSchema old.schema → RowNumbersDiffer (old.trees tree) → Drops tree (has_text 1 key) old new

-- the row of a round's phase tells this one: of the first the one row of `portal`, of the second
-- that of `second`
abbrev pub MovesTo : Round → ℕ → Database → Database → Type 0
MovesTo First phase old new =
    IsCurrentSchema old.schema → (version was : ℤ) (office : List ℕ)
    → old.trees portal_tree ≡ portal_row version was office ∷ []
    → Becomes portal_tree (portal_row version (pos phase) office) old new
MovesTo Second phase old new =
    IsCurrentSchema old.schema → (was : ℤ) → old.trees second_tree ≡ second_row was ∷ []
    → Becomes second_tree (second_row (pos phase)) old new

-- the one row of `portal` tells this version
abbrev pub IsOfVersion : ℕ → Database → Database → Type 0
IsOfVersion version old new =
    IsCurrentSchema old.schema → (was phase : ℤ) (office : List ℕ)
    → old.trees portal_tree ≡ portal_row was phase office ∷ []
    → Becomes portal_tree (portal_row (pos version) phase office) old new

-- the lecturer's one row says that a ranking is there
abbrev pub MarksRanked : List ℕ → Database → Database → Type 0
MarksRanked key old new =
    IsCurrentSchema old.schema → RowNumbersDiffer (old.trees lecturer_tree)
    → (number : ℤ) (name code : List ℕ) (capacity ranked : ℤ)
    → filter (has_text 1 key) (old.trees lecturer_tree) ≡ (Int number ∷ lecturer_cells key name code capacity ranked) ∷ []
    → Sets lecturer_tree (has_text 1 key) (Int number ∷ lecturer_cells key name code capacity (pos 1)) old new

-- a text, or NULL
abbrev pub text_or_null_cell : Option (List ℕ) → Value
text_or_null_cell None = Null
text_or_null_cell (Some t) = Words t

-- what a student's row shows: its number and its four columns
abbrev pub student_columns : Row → Row
student_columns = columns (0 ∷ 1 ∷ 2 ∷ 3 ∷ 4 ∷ [])

-- what the last of these says of the student with this key, or this value where none does
abbrev pub assigned_by : List Assigned → Value → Value → Value
assigned_by [] key value = value
assigned_by (a ∷ all) key value =
    assigned_by all key (if is_eq (value_cmp key (Words a.0)) then text_or_null_cell a.1 else value)

abbrev pub with_assigned : List Assigned → Row → Row
with_assigned all r = column r 0 ∷ column r 1 ∷ column r 2 ∷ column r 3 ∷ assigned_by all (column r 1) (column r 4) ∷ []

-- each of these students is assigned to the project or to none, one after another, and no other
-- student's row has changed
abbrev pub Assigns : List Assigned → Database → Database → Type 0
Assigns all old new =
    IsCurrentSchema old.schema → IsDatabase old → RowNumbersDiffer (old.trees student_tree)
    → Alters student_tree student_columns (with_assigned all) old new

-- the row of `portal`, as it is shown
pub record IsOffice (version : ℕ) (phase : Phase) (code : Key) (row : Row) : Type 0 where
  pub id : column row 0 ≡ Int (pos 1)
  pub version_is : column row 1 ≡ Int (pos version)
  pub phase_is : column row 2 ≡ Int (pos (number_of_phase phase))
  pub code_is : column row 3 ≡ Words code

-- the one row of `second`, as it is shown: setup where there is no second round
pub record IsSecond (phase : Phase) (rows : List Row) : Type 0 where
  pub row : Row
  pub is : rows ≡ row ∷ []
  pub id : column row 0 ≡ Int (pos 1)
  pub phase_is : column row 1 ≡ Int (pos (number_of_phase phase))
