-- How the tables come to be.
use Rattle.std.specs.Prelude.{◌≡◌, ◌∷◌}
use Rattle.portal_tables.specs.inner.Base.{ℕ, List, [], false, map, Ok, Err, Result, AllByRecursion, Table}
use Rattle.portal_tables.specs.inner.Base.{Schema, created, understood, IsPlain, Database, IsDatabase}
use Rattle.portal_tables.specs.inner.Base.{First, Second}
use Rattle.portal_tables.specs.Base.{fold, table_defined_by}
use Rattle.portal_tables.specs.Tables.{no_schema, first_schema, portal_schema, first_trees, second_tree, later_trees}
use Rattle.portal_tables.specs.Tables.{own_trees, names, IsFirstSchema}
use Rattle.portal_tables.specs.declared.sql.list_table.Lists.TheVariants.{Choices, Rankings}
use Rattle.portal_tables.specs.inner.Schema.{portal, lecturer_schema, project_schema, student_schema, list_table, second}
use Rattle.portal_tables.specs.inner.Schema.{ranked2, assigned2}
use Rattle.sqlite.specs.Change.{next_tree}
use Rattle.sqlite.specs.Command.TheVariants.{CreateTable}
use Rattle.sqlite.specs.Does.{lacks_sequence}
use Rattle.sqlite.specs.State.{text_of}
use Rattle.sqlite_resolve.specs.declared.compiled.Compiled.{Compiled}
use Rattle.sqlite_resolve.specs.declared.error.CompileError.{CompileError}

-- tables of a schema are there: some as they were, and more that are empty
pub record Grown (schema : Schema) (kept more : List ℕ) (old new : Database) : Type 0 where
  pub schema_is : new.schema ≡ schema
  pub same : AllByRecursion (λ t. new.trees t ≡ old.trees t) kept
  pub empty : AllByRecursion (λ t. new.trees t ≡ []) more
  pub sound : (more ≡ [] → IsDatabase old) → IsDatabase new

-- from the tables of one schema to those of another
abbrev pub Grows : Schema → Schema → List ℕ → List ℕ → Database → Database → Type 0
Grows before after kept more old new = old.schema ≡ before → Grown after kept more old new

-- the text is a plain CREATE TABLE, and stands whole in the listing of the tables
abbrev pub IsCreateTable : List ℕ → Result Compiled CompileError → Type 0
IsCreateTable sql (Ok c) = (c.command ≡ CreateTable) × (text_of sql c ≡ sql) × IsPlain (Ok c)
IsCreateTable sql (Err e) = ⊥

-- over this schema, whose trees are `kept`, the text creates this table, in the tree `next`
abbrev pub Defines : Schema → List ℕ → List ℕ → Table → ℕ → Type 0
Defines schema kept sql table next =
    (table_defined_by sql ≡ Ok table) × IsCreateTable sql (understood schema sql)
    × (lacks_sequence (created schema table) ≡ false) × (map (λ (t : Table). t.tree) schema.tables ≡ kept) × (next_tree schema ≡ next)

-- what a text makes that creates a table, and what several make one after another
abbrev pub MakesOne : List ℕ → Database → Database → Type 0
MakesOne sql old new =
    (kept : List ℕ) (table : Table) (next : ℕ) → Defines old.schema kept sql table next
    → Grown (created old.schema table) kept (next ∷ []) old new

abbrev pub MakesEach : List (List ℕ) → Database → Database → Type 0
MakesEach [] old new = new ≡ old
MakesEach (sql ∷ more) old new = (mid : Database) × MakesOne sql old mid × MakesEach more mid new

-- the tables that the texts create, one after another
abbrev pub first_tables : List Table
first_tables =
    portal 0 ∷ lecturer_schema 0 ∷ project_schema 0 ∷ student_schema 0
    ∷ list_table (names (Choices First)) 0 ∷ list_table (names (Rankings First)) 0 ∷ []

abbrev pub second_tables : List Table
second_tables =
    second 0 ∷ list_table (names (Choices Second)) 0 ∷ ranked2 0 ∷ list_table (names (Rankings Second)) 0 ∷ assigned2 0 ∷ []

abbrev pub second_trees : List ℕ
second_trees = second_tree ∷ later_trees

-- over no table the six of the first round are made, and all
abbrev pub MakesFirst : Database → Database → Type 0
MakesFirst = Grows no_schema first_schema [] first_trees

abbrev pub Makes : Database → Database → Type 0
Makes = Grows no_schema portal_schema [] own_trees

-- behind tables the five of the second round
abbrev pub with_second : Schema → Schema
with_second s = fold created s second_tables

abbrev pub MakesSecond : Database → Database → Type 0
MakesSecond old new = IsFirstSchema old.schema → Grown (with_second old.schema) first_trees second_trees old new
