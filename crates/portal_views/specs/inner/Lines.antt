-- What may be told of students, of the rows of the tables.
use Rattle.std.specs.Prelude.{◌≡◌, true}
use Rattle.portal_rules.specs.Words.{is_name}
use Rattle.spa_rows.specs.Lines.{is_key}
use Rattle.portal_views.specs.inner.Base.{IfSome, Round, First, Second, List, map, filter, Option, option_map}
use Rattle.portal_views.specs.inner.Base.{AllByRecursion, find, Row, column, bytes, Trees, Database, IsDatabase, Key}
use Rattle.portal_views.specs.inner.Base.{equals, has}
use Rattle.portal_tables.specs.Tables.{own_trees, HasFirstSchema, IsCurrentSchema}
use Rattle.portal_tables.specs.Rows.{second_placement, RowNumbersDiffer, text_or_none}
use Rattle.portal_tables.specs.inner.Placements.{placement_shown, HasFirstPlace, HasPlacement}
use Rattle.portal_tables.specs.inner.Owners.{choice_shown}
use Rattle.portal_tables.specs.inner.Rolls.{students_shown}
use Rattle.portal_tables.specs.inner.Shown.{first_cell}
use Rattle.portal_views.specs.declared.lines.ApplicantLine.{ApplicantLine}

-- the tables are the portal's own and sound, and no two rows of one have one number
pub record HasTables (db : Database) : Type 0 where
  pub own : HasFirstSchema db.schema
  pub current : IsCurrentSchema db.schema
  pub sound : IsDatabase db
  pub apart : AllByRecursion (λ t. RowNumbersDiffer (db.trees t)) own_trees

-- the key that the row begins with has its form
abbrev pub HasKeyForm : Row → Type 0
HasKeyForm c = is_key (first_cell c) ≡ true

-- key and name, which come first, have their forms
abbrev pub IsNamed : Row → Type 0
IsNamed c = (is_key (first_cell c) ≡ true) × (is_name (bytes (column c 1)) ≡ true)

-- and so has the assigned project behind them, where there is one
abbrev pub IsNamedWithPlacement : Row → Type 0
IsNamedWithPlacement c = IsNamed c × IfSome (text_or_none (column c 2)) (λ p. is_key p ≡ true)

-- a student on the roll has the key
abbrev pub IsStudentKey : Trees → Key → Type 0
IsStudentKey db k = has (map first_cell (students_shown db)) k ≡ true

-- What the reading of the students' lines asks: of each on the roll, key, name and the places of
-- both rounds have their forms.
pub record HasStudents (round : Round) (db : Database) : Type 0 where
  pub tables : HasTables db
  pub persons : AllByRecursion IsNamed (students_shown db.trees)
  pub first : AllByRecursion HasFirstPlace (students_shown db.trees)
  pub places : AllByRecursion (HasPlacement round db.trees) (students_shown db.trees)

-- what is told of the student whose row is shown, with the place in a round
abbrev pub shown_line : Round → Trees → Row → ApplicantLine
shown_line round db c =
    record { person = record { key = first_cell c; name = bytes (column c 1) }; placed = placement_shown round db c }

-- and of the student whose key, name and assigned project are shown alone, with that project
abbrev pub placement_line : Row → ApplicantLine
placement_line c =
    record { person = record { key = first_cell c; name = bytes (column c 1) }; placed = text_or_none (column c 2) }

-- the line with the place in a round, in place of the assigned project
abbrev pub in_round : Round → Trees → ApplicantLine → ApplicantLine
in_round First db l = l
in_round Second db l = record l { placed = second_placement db l.person.key }

-- of the student on the roll with this key, where there is one
abbrev pub applicant_at : Round → Trees → Key → Option ApplicantLine
applicant_at round db k = option_map (shown_line round db) (find (λ c. equals (first_cell c) k) (students_shown db))

-- of the students whose list of the round holds the project, by their keys
abbrev pub applicant_lines : Round → Trees → Key → List ApplicantLine
applicant_lines round db project =
    map (shown_line round db) (filter (λ c. has (choice_shown round db c) project) (students_shown db))
