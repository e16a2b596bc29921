-- What each query reads of the tables, and shows.
use Rattle.std.specs.Prelude.{◌∷◌}
use Rattle.portal_tables.specs.inner.Base.{ℕ, List, [], Bool, Row, Trees, Round, First, InSecond}
use Rattle.portal_tables.specs.declared.sql.list_table.Lists.TheVariants.{Choices}
use Rattle.portal_tables.specs.declared.sql.select.Query.{Query}
use Rattle.portal_tables.specs.declared.sql.select.Query.TheVariants.{Office, Whole, LecturerByCode, StudentByCode}
use Rattle.portal_tables.specs.declared.sql.select.Query.TheVariants.{LecturerByKey, StudentTold, AllLists, ListOf}
use Rattle.portal_tables.specs.declared.sql.select.Query.TheVariants.{Choosers, Listed, ProjectsOf, Numbers}
use Rattle.portal_tables.specs.declared.sql.select.Query.TheVariants.{FirstPlacements, Second, SecondRanked, SecondRankedBy}
use Rattle.portal_tables.specs.declared.sql.select.Query.TheVariants.{SecondPlacements, SecondPlaceOf}
use Rattle.portal_tables.specs.declared.sql.select.RollTable.{RollTable}
use Rattle.portal_tables.specs.declared.sql.select.RollTable.TheVariants.{Lecturers, Projects, Students}
use Rattle.portal_tables.specs.declared.sql.select.Table.{Table}
use Rattle.portal_tables.specs.declared.sql.select.Table.TheVariants.{OfRoll, OfLists, OfRanked, OfPlaces}
use Rattle.portal_tables.specs.Rows.{has_text}
use Rattle.portal_tables.specs.inner.Changes.{ListsBy, every, columns, has_number}
use Rattle.portal_tables.specs.inner.Texts.{round_of}
use Rattle.portal_tables.specs.Tables.{tree_of, portal_tree, lecturer_tree, project_tree, student_tree}
use Rattle.portal_tables.specs.Tables.{second_tree, ranked2_tree, assigned2_tree}

abbrev pub roll_tree : RollTable → ℕ
roll_tree Lecturers = lecturer_tree
roll_tree Projects = project_tree
roll_tree Students = student_tree

-- the columns of a roll, behind the key
abbrev pub columns_of : RollTable → List ℕ
columns_of Lecturers = 2 ∷ 3 ∷ 4 ∷ 5 ∷ []
columns_of Projects = 2 ∷ 3 ∷ 4 ∷ []
columns_of Students = 2 ∷ 3 ∷ 4 ∷ []

abbrev pub table_tree : Table → ℕ
table_tree (OfRoll roll) = roll_tree roll
table_tree (OfLists lists) = tree_of lists
table_tree OfRanked = ranked2_tree
table_tree OfPlaces = assigned2_tree

-- the round of a table, and of the tables that a query reads
abbrev pub table_round : Table → Round
table_round (OfRoll roll) = First
table_round (OfLists lists) = round_of lists
table_round OfRanked = InSecond
table_round OfPlaces = InSecond

abbrev pub round_asked : Query → Round
round_asked (AllLists lists) = round_of lists
round_asked (ListOf lists owner) = round_of lists
round_asked (Choosers round project) = round
round_asked (Listed round) = round
round_asked (Numbers table) = table_round table
round_asked Second = InSecond
round_asked SecondRanked = InSecond
round_asked (SecondRankedBy lecturer) = InSecond
round_asked SecondPlacements = InSecond
round_asked (SecondPlaceOf student) = InSecond
round_asked _ = First

-- of the table with this tree the rows that pass, by rising values of some columns, each shown by
-- some columns
pub record Selection : Type 0 where
  pub tree : ℕ
  pub passes : Row → Bool
  pub by : List ℕ
  pub shown : List ℕ

abbrev pub selection : Query → Selection
selection Office = record { tree = portal_tree; passes = every; by = 0 ∷ []; shown = 0 ∷ 2 ∷ 3 ∷ 4 ∷ [] }
selection (Whole roll) = record { tree = roll_tree roll; passes = every; by = 1 ∷ []; shown = 1 ∷ columns_of roll }
selection (LecturerByCode code) =
    record { tree = lecturer_tree; passes = has_text 3 code.now; by = 1 ∷ []; shown = 1 ∷ columns_of Lecturers }
selection (StudentByCode code) =
    record { tree = student_tree; passes = has_text 3 code.now; by = 1 ∷ []; shown = 1 ∷ columns_of Students }
selection (LecturerByKey key) =
    record { tree = lecturer_tree; passes = has_text 1 key.now; by = 1 ∷ []; shown = 1 ∷ [] }
selection (StudentTold key) =
    record { tree = student_tree; passes = has_text 1 key.now; by = 1 ∷ []; shown = 1 ∷ 2 ∷ 4 ∷ [] }
selection (AllLists lists) = record { tree = tree_of lists; passes = every; by = []; shown = 1 ∷ 2 ∷ 3 ∷ [] }
selection (ListOf lists owner) =
    record { tree = tree_of lists; passes = has_text 1 owner.now; by = 2 ∷ []; shown = 2 ∷ 3 ∷ [] }
selection (Choosers round project) =
    record { tree = tree_of (Choices round); passes = has_text 3 project.now; by = 1 ∷ []; shown = 1 ∷ [] }
selection (ProjectsOf lecturer) =
    record { tree = project_tree; passes = has_text 2 lecturer.now; by = 1 ∷ []; shown = 1 ∷ [] }
selection (Listed round) =
    record { tree = tree_of (Choices round); passes = has_number 2 1; by = 1 ∷ []; shown = 1 ∷ [] }
selection FirstPlacements = record { tree = student_tree; passes = every; by = 1 ∷ []; shown = 1 ∷ 4 ∷ [] }
selection Second = record { tree = second_tree; passes = every; by = 0 ∷ []; shown = 0 ∷ 2 ∷ [] }
selection SecondRanked = record { tree = ranked2_tree; passes = every; by = 1 ∷ []; shown = 1 ∷ [] }
selection (SecondRankedBy lecturer) =
    record { tree = ranked2_tree; passes = has_text 1 lecturer.now; by = 1 ∷ []; shown = 1 ∷ [] }
selection SecondPlacements = record { tree = assigned2_tree; passes = every; by = 1 ∷ []; shown = 1 ∷ 2 ∷ [] }
selection (SecondPlaceOf student) =
    record { tree = assigned2_tree; passes = has_text 1 student.now; by = 1 ∷ []; shown = 1 ∷ 2 ∷ [] }
selection (Numbers table) = record { tree = table_tree table; passes = every; by = 0 ∷ []; shown = 0 ∷ [] }

-- the query shows these rows of the tables
abbrev pub QueryShows : Query → Trees → List Row → Type 0
QueryShows q db rows =
    ListsBy (selection q).by (selection q).passes (columns (selection q).shown) (db (selection q).tree) rows
