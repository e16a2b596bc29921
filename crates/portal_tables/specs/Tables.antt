-- The portal's tables, six of the first round and five of the second, and which count as its own.
use Rattle.std.specs.Prelude.{◌∷◌, ◌++◌, ◌≡◌}
use Rattle.portal_tables.specs.Base.{[], codes, List, ℕ, Table, Schema, created, table_defined_by, fold, option_map_or}
use Rattle.portal_tables.specs.Base.{result_ok, First, Second, take, AllZip}
use Rattle.portal_tables.specs.declared.sql.list_table.Lists.{Lists}
use Rattle.portal_tables.specs.declared.sql.list_table.Lists.TheVariants.{Choices, Rankings}

-- a table of lists; the columns `owner` and `item` have the names of the rolls that they refer to
pub record ListTable : Type 0 where
  pub name : List ℕ
  pub owner : List ℕ
  pub item : List ℕ

-- the tables of a round's students' lists and lecturers' rankings
abbrev pub choices_in : List ℕ → ListTable
choices_in name = record { name = name; owner = codes "student"; item = codes "project" }

abbrev pub rankings_in : List ℕ → ListTable
rankings_in name = record { name = name; owner = codes "lecturer"; item = codes "student" }

abbrev pub names : Lists → ListTable
names (Choices First) = choices_in (codes "choice")
names (Choices Second) = choices_in (codes "choice2")
names (Rankings First) = rankings_in (codes "ranking")
names (Rankings Second) = rankings_in (codes "ranking2")

-- the text that creates a table of lists
abbrev pub lists_text : ListTable → List ℕ
lists_text t =
    codes "CREATE TABLE " ++ t.name ++ codes " (" ++ t.owner ++ codes " TEXT NOT NULL REFERENCES " ++ t.owner
    ++ codes " (key), place INTEGER NOT NULL, " ++ t.item ++ codes " TEXT NOT NULL REFERENCES " ++ t.item
    ++ codes " (key), PRIMARY KEY (" ++ t.owner ++ codes ", place), UNIQUE (" ++ t.item ++ codes ", " ++ t.owner ++ codes ")) STRICT"

-- the texts that create the tables of the first round, in this order
abbrev pub first_texts : List (List ℕ)
first_texts =
    (codes "CREATE TABLE portal (id INTEGER NOT NULL PRIMARY KEY CHECK (id = 1), version INTEGER NOT NULL, "
    ++ codes "phase INTEGER NOT NULL, office TEXT NOT NULL) STRICT")
    ∷ (codes "CREATE TABLE lecturer (key TEXT NOT NULL PRIMARY KEY, name TEXT NOT NULL, code TEXT NOT NULL UNIQUE, "
    ++ codes "capacity INTEGER NOT NULL CHECK (capacity >= 1 AND capacity <= 200), "
    ++ codes "ranked INTEGER NOT NULL CHECK (ranked = 0 OR ranked = 1)) STRICT")
    ∷ (codes "CREATE TABLE project (key TEXT NOT NULL PRIMARY KEY, lecturer TEXT NOT NULL REFERENCES lecturer (key), "
    ++ codes "title TEXT NOT NULL, capacity INTEGER NOT NULL CHECK (capacity >= 1 AND capacity <= 200)) STRICT")
    ∷ (codes "CREATE TABLE student (key TEXT NOT NULL PRIMARY KEY, name TEXT NOT NULL, code TEXT NOT NULL UNIQUE, "
    ++ codes "assigned TEXT REFERENCES project (key)) STRICT")
    ∷ lists_text (names (Choices First)) ∷ lists_text (names (Rankings First)) ∷ []

-- those of the second round
abbrev pub second_texts : List (List ℕ)
second_texts =
    (codes "CREATE TABLE second (id INTEGER NOT NULL PRIMARY KEY CHECK (id = 1), "
    ++ codes "phase INTEGER NOT NULL CHECK (phase >= 0 AND phase <= 3)) STRICT")
    ∷ lists_text (names (Choices Second))
    ∷ codes "CREATE TABLE ranked2 (lecturer TEXT NOT NULL PRIMARY KEY REFERENCES lecturer (key)) STRICT"
    ∷ lists_text (names (Rankings Second))
    ∷ (codes "CREATE TABLE assigned2 (student TEXT NOT NULL PRIMARY KEY REFERENCES student (key), "
    ++ codes "project TEXT NOT NULL REFERENCES project (key)) STRICT")
    ∷ []

abbrev pub no_schema : Schema
no_schema = record { tables = []; indexes = []; views = [] }

-- a schema with the table that a text creates, if it creates one
unfoldable pub with_created : Schema → List ℕ → Schema
with_created schema text = option_map_or (created schema) (result_ok (table_defined_by text)) schema

-- the tables of version 1
unfoldable pub first_schema : Schema
first_schema = fold with_created no_schema first_texts

-- all tables
unfoldable pub portal_schema : Schema
portal_schema = fold with_created first_schema second_texts

-- the schema versions in the row of `portal`: that of all tables, and that of the first six alone
abbrev pub version : ℕ
version = 2

abbrev pub first_version : ℕ
first_version = 1

-- the trees of the tables, which are numbered as they are created: a table, then its indexes
abbrev pub portal_tree : ℕ
portal_tree = 0

abbrev pub lecturer_tree : ℕ
lecturer_tree = 1

abbrev pub project_tree : ℕ
project_tree = 4

abbrev pub student_tree : ℕ
student_tree = 6

abbrev pub choice_tree : ℕ
choice_tree = 9

abbrev pub ranking_tree : ℕ
ranking_tree = 12

abbrev pub second_tree : ℕ
second_tree = 15

abbrev pub choice2_tree : ℕ
choice2_tree = 16

abbrev pub ranked2_tree : ℕ
ranked2_tree = 19

abbrev pub ranking2_tree : ℕ
ranking2_tree = 21

abbrev pub assigned2_tree : ℕ
assigned2_tree = 24

-- the trees of the first round's tables, of those after `second`, and of all
abbrev pub first_trees : List ℕ
first_trees = portal_tree ∷ lecturer_tree ∷ project_tree ∷ student_tree ∷ choice_tree ∷ ranking_tree ∷ []

abbrev pub later_trees : List ℕ
later_trees = choice2_tree ∷ ranked2_tree ∷ ranking2_tree ∷ assigned2_tree ∷ []

abbrev pub own_trees : List ℕ
own_trees = first_trees ++ second_tree ∷ later_trees

abbrev pub tree_of : Lists → ℕ
tree_of (Choices First) = choice_tree
tree_of (Choices Second) = choice2_tree
tree_of (Rankings First) = ranking_tree
tree_of (Rankings Second) = ranking2_tree

-- two tables that differ at most in the terms of CHECK and DEFAULT: a with those of b is b
abbrev pub SameTable : Table → Table → Type 0
SameTable a b = record a { checks = b.checks; stamps = record a.stamps { terms = b.stamps.terms } } ≡ b

pub record SameSchema (a b : Schema) : Type 0 where
  pub tables : AllZip SameTable a.tables b.tables
  pub indexes : a.indexes ≡ b.indexes
  pub views : a.views ≡ b.views

-- exactly the portal's tables; only the terms of CHECK and DEFAULT are not compared
abbrev pub IsCurrentSchema : Schema → Type 0
IsCurrentSchema schema = SameSchema schema portal_schema

-- exactly the six tables of version 1, compared likewise
abbrev pub IsFirstSchema : Schema → Type 0
IsFirstSchema schema = SameSchema schema first_schema

-- for both versions: the first six tables are those of the first round, and there is no view
pub record HasFirstSchema (schema : Schema) : Type 0 where
  pub tables : AllZip SameTable (take 6 schema.tables) first_schema.tables
  pub no_views : schema.views ≡ []
