-- The text of each query, and the value that it asks for.
use Rattle.std.specs.Prelude.{◌∷◌, ◌++◌}
use Rattle.portal_tables.specs.Base.{codes, ℕ, List, [], Words, Row}
use Rattle.portal_tables.specs.declared.sql.list_table.Lists.TheVariants.{Choices}
use Rattle.portal_tables.specs.declared.sql.select.Query.{Query}
use Rattle.portal_tables.specs.declared.sql.select.Query.TheVariants.{Office, Whole, LecturerByCode, StudentByCode}
use Rattle.portal_tables.specs.declared.sql.select.Query.TheVariants.{LecturerByKey, StudentTold, AllLists, ListOf}
use Rattle.portal_tables.specs.declared.sql.select.Query.TheVariants.{Choosers, Listed, ProjectsOf, Numbers}
use Rattle.portal_tables.specs.declared.sql.select.Query.TheVariants.{FirstPlacements, Second, SecondRanked, SecondRankedBy}
use Rattle.portal_tables.specs.declared.sql.select.Query.TheVariants.{SecondPlacements, SecondPlaceOf}
use Rattle.portal_tables.specs.declared.sql.select.RollTable.{RollTable}
use Rattle.portal_tables.specs.declared.sql.select.RollTable.TheVariants.{Lecturers, Projects, Students}
use Rattle.portal_tables.specs.declared.sql.select.Table.{Table}
use Rattle.portal_tables.specs.declared.sql.select.Table.TheVariants.{OfRoll, OfLists, OfRanked, OfPlaces}
use Rattle.portal_tables.specs.Tables.{ListTable, names}

-- the texts that show all rows, and the list of one owner
abbrev pub all_text : ListTable → List ℕ
all_text t = codes "SELECT " ++ t.owner ++ codes ", place, " ++ t.item ++ codes " FROM " ++ t.name

abbrev pub list_text : ListTable → List ℕ
list_text t = codes "SELECT place, " ++ t.item ++ codes " FROM " ++ t.name ++ codes " WHERE " ++ t.owner ++ codes " = ?1 ORDER BY place"

-- the name of a table, the query of its rowids, and that of a whole roll
abbrev pub table_name : Table → List ℕ
table_name (OfRoll Lecturers) = codes "lecturer"
table_name (OfRoll Projects) = codes "project"
table_name (OfRoll Students) = codes "student"
table_name (OfLists lists) = (names lists).name
table_name OfRanked = codes "ranked2"
table_name OfPlaces = codes "assigned2"

abbrev pub numbers_text : Table → List ℕ
numbers_text table = codes "SELECT rowid FROM " ++ table_name table ++ codes " ORDER BY rowid"

abbrev pub whole_text : RollTable → List ℕ
whole_text Lecturers = codes "SELECT key, name, code, capacity, ranked FROM lecturer ORDER BY key"
whole_text Projects = codes "SELECT key, lecturer, title, capacity FROM project ORDER BY key"
whole_text Students = codes "SELECT key, name, code, assigned FROM student ORDER BY key"

-- the text of a query
abbrev pub query_text : Query → List ℕ
query_text Office = codes "SELECT id, version, phase, office FROM portal ORDER BY id"
query_text (Whole roll) = whole_text roll
query_text (LecturerByCode code) =
    codes "SELECT key, name, code, capacity, ranked FROM lecturer WHERE code = ?1 ORDER BY key"
query_text (StudentByCode code) = codes "SELECT key, name, code, assigned FROM student WHERE code = ?1 ORDER BY key"
query_text (LecturerByKey key) = codes "SELECT key FROM lecturer WHERE key = ?1 ORDER BY key"
query_text (StudentTold key) = codes "SELECT key, name, assigned FROM student WHERE key = ?1 ORDER BY key"
query_text (AllLists lists) = all_text (names lists)
query_text (ListOf lists owner) = list_text (names lists)
query_text (Choosers round project) =
    codes "SELECT student FROM " ++ (names (Choices round)).name ++ codes " WHERE project = ?1 ORDER BY student"
query_text (ProjectsOf lecturer) = codes "SELECT key FROM project WHERE lecturer = ?1 ORDER BY key"
query_text (Listed round) =
    codes "SELECT student FROM " ++ (names (Choices round)).name ++ codes " WHERE place = 1 ORDER BY student"
query_text FirstPlacements = codes "SELECT key, assigned FROM student ORDER BY key"
query_text Second = codes "SELECT id, phase FROM second ORDER BY id"
query_text SecondRanked = codes "SELECT lecturer FROM ranked2 ORDER BY lecturer"
query_text (SecondRankedBy lecturer) = codes "SELECT lecturer FROM ranked2 WHERE lecturer = ?1 ORDER BY lecturer"
query_text SecondPlacements = codes "SELECT student, project FROM assigned2 ORDER BY student"
query_text (SecondPlaceOf student) = codes "SELECT student, project FROM assigned2 WHERE student = ?1 ORDER BY student"
query_text (Numbers table) = numbers_text table

-- the value that it asks for, if any
abbrev pub given : Query → Row
given (LecturerByCode code) = Words code.now ∷ []
given (StudentByCode code) = Words code.now ∷ []
given (LecturerByKey key) = Words key.now ∷ []
given (StudentTold key) = Words key.now ∷ []
given (ListOf lists owner) = Words owner.now ∷ []
given (Choosers round project) = Words project.now ∷ []
given (ProjectsOf lecturer) = Words lecturer.now ∷ []
given (SecondRankedBy lecturer) = Words lecturer.now ∷ []
given (SecondPlaceOf student) = Words student.now ∷ []
given _ = []
