-- The three rolls by rising key, whatever the order of their rows in the tables.
use Rattle.std.specs.Prelude.{◌≡◌, ◌∷◌}
use Rattle.portal_tables.specs.inner.Base.{List, [], map, Row, Trees, Rise, put_all}
use Rattle.portal_tables.specs.declared.reading.sorted_rolls.Rolls.{Rolls}
use Rattle.portal_tables.specs.declared.sql.select.RollTable.{RollTable}
use Rattle.portal_tables.specs.declared.sql.select.RollTable.TheVariants.{Lecturers, Projects, Students}
use Rattle.portal_tables.specs.inner.Queries.{roll_tree, columns_of}
use Rattle.portal_tables.specs.inner.Changes.{columns}
use Rattle.portal_tables.specs.Rows.{row_key}

-- the rows of a table by rising key
abbrev pub by_key : List Row → List Row
by_key table = put_all row_key table []

-- the columns of a row behind its number: those of a lecturer, and those of a project or a student
abbrev pub lecturer_columns : Row → Row
lecturer_columns = columns (1 ∷ columns_of Lecturers)

abbrev pub roll_columns : Row → Row
roll_columns = columns (1 ∷ columns_of Students)

-- a roll as it is shown: the columns of each row behind its number, by rising key
abbrev pub roll_rows : RollTable → Trees → List Row
roll_rows roll db = map (columns (1 ∷ columns_of roll)) (by_key (db (roll_tree roll)))

abbrev pub lecturers_shown : Trees → List Row
lecturers_shown = roll_rows Lecturers

abbrev pub projects_shown : Trees → List Row
projects_shown = roll_rows Projects

abbrev pub students_shown : Trees → List Row
students_shown = roll_rows Students

-- the rolls that were read are those of the tables
pub record AreRolls (db : Trees) (rolls : Rolls) : Type 0 where
  pub lecturers_are : rolls.lecturers.items ≡ lecturers_shown db
  pub projects_are : rolls.projects.items ≡ projects_shown db
  pub students_are : rolls.students.items ≡ students_shown db

-- the keys of a roll rise
abbrev pub RollRises : RollTable → Trees → Type 0
RollRises roll db = Rise (map row_key (by_key (db (roll_tree roll))))

pub record RollsRise (db : Trees) : Type 0 where
  pub lecturers_rise : RollRises Lecturers db
  pub projects_rise : RollRises Projects db
  pub students_rise : RollRises Students db
