-- Which schemas use a name of the portal's tables, and how its tables are made and upgraded.
use Rattle.std.specs.Prelude.{◌||◌, ◌&&◌, ◌≡◌, ◌≢◌, ◌∷◌}
use Rattle.portal_tables.specs.Base.{ℕ, Bool, true, List, Option, Some, None, bytes_eq, list_any, drop}
use Rattle.portal_tables.specs.Base.{same_name, ℤ, pos, [], AllByRecursion, Database, IsDatabase}
use Rattle.sqlite_schema.specs.declared.schema.Schema.{Schema}
use Rattle.portal_tables.specs.declared.sql.names.Names.{Names}
use Rattle.portal_tables.specs.declared.sql.names.Names.TheVariants.{All, OfSecond}
use Rattle.portal_tables.specs.Tables.{no_schema, portal_schema, portal_tree, second_tree, first_trees, later_trees}
use Rattle.portal_tables.specs.Tables.{own_trees, version, first_version, IsFirstSchema, IsCurrentSchema}
use Rattle.portal_tables.specs.Rows.{portal_row, second_row}

-- a name of any of the portal's tables, or of the second round's alone, ignoring the case of letters
abbrev pub has_name : Names → List ℕ → Bool
has_name All n = list_any (λ t. same_name n t.name) portal_schema.tables
has_name OfSecond n = list_any (λ t. same_name n t.name) (drop 6 portal_schema.tables)

-- an object without readable rows counts if it is a view (no table) or a table (its own name)
abbrev pub stands_for_table : List ℕ → Option (List ℕ) → Bool
stands_for_table name None = true
stands_for_table name (Some table) = bytes_eq table name

-- a table or a view has one of these names
abbrev pub has_names : Names → Schema → Bool
has_names names schema =
    list_any (λ t. has_name names t.name) schema.tables
    || list_any (λ v. has_name names v.name && stands_for_table v.name v.foreign) schema.views

-- the portal's tables in setup: the office's row, the row of no second round, and no other rows
pub record IsFresh (office : List ℕ) (db : Database) : Type 0 where
  pub schema_is : db.schema ≡ portal_schema
  pub row : db.trees portal_tree ≡ portal_row (pos version) (pos 0) office ∷ []
  pub second : db.trees second_tree ≡ second_row (pos 0) ∷ []
  pub others : AllByRecursion (λ t. t ≢ portal_tree → t ≢ second_tree → db.trees t ≡ []) own_trees
  pub sound : IsDatabase db

-- in an empty schema, the portal's tables are made as a fresh database
abbrev pub Creates : List ℕ → Database → Database → Type 0
Creates office old new = old.schema ≡ no_schema → IsFresh office new

-- the five tables are added, empty but for `second`; of the other six only the version changes
pub record Upgraded (phase : ℤ) (office : List ℕ) (old new : Database) : Type 0 where
  pub current : IsCurrentSchema new.schema
  pub portal : new.trees portal_tree ≡ portal_row (pos version) phase office ∷ []
  pub others : AllByRecursion (λ t. t ≢ portal_tree → new.trees t ≡ old.trees t) first_trees
  pub second : new.trees second_tree ≡ second_row (pos 0) ∷ []
  pub empty : AllByRecursion (λ t. new.trees t ≡ []) later_trees
  pub sound : IsDatabase new

-- a database of version 1 is upgraded, whatever its phase and the office's code
abbrev pub Upgrades : Database → Database → Type 0
Upgrades old new =
    IsFirstSchema old.schema → (phase : ℤ) (office : List ℕ)
    → old.trees portal_tree ≡ portal_row (pos first_version) phase office ∷ []
    → Upgraded phase office old new
