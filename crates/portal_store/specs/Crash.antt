-- What a refusal to open or upgrade says of the tables, and what can be opened after a crash.
use Rattle.portal_store.specs.Base.{Row, column, Trees, portal_tree, version, first_version, IsFirstSchema}
use Rattle.portal_store.specs.Base.{IsCurrentSchema, Database, IsDatabase, First, is_code, Key, Change, changed, Good}
use Rattle.portal_store.specs.Base.{HasFirstSchema}
use Rattle.std.specs.List.{AllByRecursion}
use Rattle.sqlite.specs.State.{State}
use Rattle.sqlite.specs.declared.error.Error.{Error}
use Rattle.portal_rules.specs.declared.phase.Round.TheVariants.{Second as InSecond}
use Rattle.portal_tables.specs.declared.sql.list_table.Lists.TheVariants.{Choices, Rankings}
use Rattle.portal_tables.specs.declared.sql.select.Query.{Query}
use Rattle.portal_tables.specs.declared.sql.select.Query.TheVariants.{AllLists, Office, Second, SecondPlacements}
use Rattle.portal_tables.specs.declared.sql.select.Query.TheVariants.{SecondRanked, Whole}
use Rattle.portal_tables.specs.declared.sql.select.RollTable.TheVariants.{Lecturers, Projects, Students}
use Rattle.std.specs.Prelude.{◌≡◌, ◌≢◌, ℕ, List, [], ◌∷◌, pos, ◌⊎◌, IsTrue, false}
use Rattle.sqlite.specs.declared.types.Value.TheVariants.{Int}
use Rattle.portal_store.specs.Kept.{HasGoodWorld, HasGoodFirst, IsConsistent, HasChanged}
use Rattle.portal_store.specs.declared.store.CreateFault.{CreateFault}
use Rattle.portal_store.specs.declared.store.CreateFault.TheVariants as creating
use Rattle.portal_store.specs.declared.store.OpenFault.{OpenFault}
use Rattle.portal_store.specs.declared.store.OpenFault.TheVariants as opening
use Rattle.portal_store.specs.declared.store.UpgradeFault.{UpgradeFault}
use Rattle.portal_store.specs.declared.store.UpgradeFault.TheVariants as upgrading
use Rattle.portal_tables.specs.Making.{Creates, IsFresh, Upgrades, has_names}
use Rattle.portal_tables.specs.declared.sql.names.Names.TheVariants.{OfSecond}
use Rattle.portal_tables.specs.Steps.{HasAnswer, HasRefusal, IsAfter, IsStoreError}
use Rattle.portal_store.specs.World.{world_in, world_of, first_world}

-- `portal` has a row; if it has only one, that row has this schema version
pub record HasVersion (of : ℕ) (db : Trees) : Type 0 where
  pub there : db portal_tree ≢ []
  pub version_is : (row : Row) → db portal_tree ≡ row ∷ [] → column row 2 ≡ Int (pos of)

-- `portal` has a row; if it has only one, that row has another schema version
pub record HasOther (of : ℕ) (db : Trees) : Type 0 where
  pub there : db portal_tree ≢ []
  pub other : (row : Row) → db portal_tree ≡ row ∷ [] → column row 2 ≢ Int (pos of)

-- the query of the office's row, as the schema understands it, shows these rows
abbrev pub ShowsOffice : State → List Row → Type 0
ShowsOffice = HasAnswer Office

-- it shows a row, and the first one has this schema version
pub record ShowsVersion (of : ℕ) (s : State) : Type 0 where
  pub row : Row
  pub rest : List Row
  pub shown : ShowsOffice s (row ∷ rest)
  pub version_is : column row 1 ≡ Int (pos of)

-- it shows a row, and the first one has another schema version
pub record ShowsOther (of : ℕ) (s : State) : Type 0 where
  pub row : Row
  pub rest : List Row
  pub shown : ShowsOffice s (row ∷ rest)
  pub other : column row 1 ≢ Int (pos of)

-- the queries of the first round's tables, and of the second's, by which `open` and `upgrade` see
-- whether tables can be queried
abbrev pub first_queries : List Query
first_queries = Office ∷ Whole Lecturers ∷ Whole Projects ∷ Whole Students ∷ AllLists (Choices First) ∷ AllLists (Rankings First) ∷ []

abbrev pub later_queries : List Query
later_queries =
    Second ∷ AllLists (Choices InSecond) ∷ SecondRanked ∷ AllLists (Rankings InSecond) ∷ SecondPlacements ∷ []

-- the query is rejected, with an error that is not the store's
pub record IsRejected (query : Query) (s : State) : Type 0 where
  pub error : Error
  pub refused : HasRefusal query s error
  pub not_store : IsStoreError error → ⊥

-- one of the queries is
abbrev pub RefusesOne : List Query → State → Type 0
RefusesOne [] s = ⊥
RefusesOne (query ∷ queries) s = IsRejected query s ⊎ RefusesOne queries s

-- the query shows some rows
abbrev pub IsAnswered : State → Query → Type 0
IsAnswered s query = (rows : List Row) × HasAnswer query s rows

-- the tables are the portal's own, or each of the queries shows some rows
abbrev pub Passes : Type 0 → List Query → State → Type 0
Passes Own queries s = Own ⊎ AllByRecursion (IsAnswered s) queries

-- any tables, own or not, that are of this version and pass the first six queries and the later ones
pub record Suits (Own : Type 0) (of : ℕ) (later : List Query) (s : State) : Type 0 where
  pub passes : Passes Own first_queries s
  pub shows : ShowsVersion of s
  pub passes_later : Passes Own later s

-- what a refusal says of any tables that should suit so; a fault of the store or want of memory says
-- nothing
abbrev pub IsTrueOfQueries : OpenFault → Type 0 → ℕ → List Query → State → Type 0
IsTrueOfQueries opening.NotPortal Own of later s =
    RefusesOne first_queries s
    ⊎ (Passes Own first_queries s × (ShowsOffice s [] ⊎ (ShowsVersion of s × RefusesOne later s)))
IsTrueOfQueries opening.OtherVersion Own of later s = Passes Own first_queries s × ShowsOther of s
IsTrueOfQueries opening.Damaged Own of later s = Suits Own of later s
IsTrueOfQueries opening.Store Own of later s = Unit {0}
IsTrueOfQueries opening.Memory Own of later s = Unit {0}

-- what a refusal says of own tables that should have the schema version `of` and satisfy `so`
abbrev pub IsTrueOfTables : OpenFault → ℕ → Type 0 → Trees → Type 0
IsTrueOfTables opening.NotPortal of so db = db portal_tree ≡ []
IsTrueOfTables opening.OtherVersion of so db = HasOther of db
IsTrueOfTables opening.Damaged of so db = HasVersion of db × (so → ⊥)
IsTrueOfTables opening.Store of so db = Unit {0}
IsTrueOfTables opening.Memory of so db = Unit {0}

-- what a refusal to open says; `Damaged` means that the tables hold no good world
abbrev pub IsTrueOfOpening : OpenFault → Trees → Type 0
IsTrueOfOpening fault db = IsTrueOfTables fault version (HasGoodWorld db) db

-- a fault of opening tables of version 1, as a fault of upgrading them
abbrev pub as_upgrading : OpenFault → UpgradeFault
as_upgrading opening.NotPortal = upgrading.NotPortal
as_upgrading opening.OtherVersion = upgrading.OtherVersion
as_upgrading opening.Damaged = upgrading.Damaged
as_upgrading opening.Store = upgrading.Store
as_upgrading opening.Memory = upgrading.Memory

-- the same of an upgrade, by the rules of version 1; the tables alone give no cause for `Exists`
abbrev pub IsTrueOfUpgrading : UpgradeFault → Trees → Type 0
IsTrueOfUpgrading fault db =
    (found : OpenFault) × (fault ≡ as_upgrading found)
    × IsTrueOfTables found first_version (HasGoodFirst first_version db) db

-- tables that were opened, as a connection showed them before
pub record AreOpened (s : State) : Type 0 where
  -- they pass the eleven queries, and the first row of `portal` has version 2
  pub suits : Suits (IsCurrentSchema s.now.schema) version later_queries s
  -- if the first six are the portal's, they have this version
  pub version_is : HasFirstSchema s.now.schema → HasVersion version s.now.trees
  -- own ones stand for a good world
  pub good : IsCurrentSchema s.now.schema → HasGoodWorld s.now.trees

-- tables that were not, for this fault
pub record AreRefused (fault : OpenFault) (s : State) : Type 0 where
  -- of any tables, it tells what the eleven queries show, or that one is refused
  pub explained : IsTrueOfQueries fault (IsCurrentSchema s.now.schema) version later_queries s
  -- it tells why own ones were refused
  pub refuted : IsCurrentSchema s.now.schema → IsTrueOfOpening fault s.now.trees

-- tables such as an upgrade looks for, as a connection showed them before
pub record AreFirst (s : State) : Type 0 where
  -- they pass the first six queries, and the first row of `portal` has version 1
  pub suits : Suits (IsFirstSchema s.now.schema) first_version [] s
  -- if the first six are the portal's, they stand for a good world
  pub good : HasFirstSchema s.now.schema → HasGoodFirst first_version s.now.trees

-- tables that were upgraded: no table or view had one of the five new names
pub record AreUpgraded (s : State) : Type 0 where
  pub first : AreFirst s
  pub free : has_names OfSecond s.now.schema ≡ false

-- tables that were not, for this fault
pub record AreBarred (fault : UpgradeFault) (s : State) : Type 0 where
  -- of any tables, a fault of opening tells what the first six queries show, or that one is refused
  pub explained : (found : OpenFault) → fault ≡ as_upgrading found
      → IsTrueOfQueries found (IsFirstSchema s.now.schema) first_version [] s
  -- it tells why own ones were refused
  pub barred : IsFirstSchema s.now.schema → IsTrueOfUpgrading fault s.now.trees
  -- after `Damaged`, the first six, if they are the portal's, stand for no good world
  pub damaged : fault ≡ upgrading.Damaged → HasFirstSchema s.now.schema → HasGoodFirst first_version s.now.trees → ⊥
  -- `Exists` means that they are such as it looks for, and a table or view has one of the five new names
  pub exists : fault ≡ upgrading.Exists → AreFirst s × IsTrue (has_names OfSecond s.now.schema)

-- what a crash may leave: the tables before the change, or those of the changed world
abbrev pub IsLeft : Change → Database → Trees → Type 0
IsLeft change old db = (db ≡ old.trees) ⊎ ((after : Database) × HasChanged change old after × (db ≡ after.trees))

-- what a crash in an upgrade may leave beside the tables before it: the upgraded ones, if no new name
-- was taken
abbrev pub LeavesUpgraded : State → Trees → Type 0
LeavesUpgraded old db = (has_names OfSecond old.now.schema ≡ false) × IsAfter Upgrades old db

-- the same after this refusal to upgrade: only a fault of the store or want of memory may come so late
abbrev pub AfterUpgrading : UpgradeFault → State → Trees → Type 0
AfterUpgrading upgrading.Store old db = LeavesUpgraded old db
AfterUpgrading upgrading.Memory old db = LeavesUpgraded old db
AfterUpgrading _ old db = ⊥

-- and after this refusal to create tables with this office code
abbrev pub AfterCreating : CreateFault → Key → State → Trees → Type 0
AfterCreating creating.Exists office old db = ⊥
AfterCreating _ office old db = IsAfter (Creates office) old db

-- these are the trees of a consistent database with the world of those tables of version 1
pub record IsUpgradedFrom (first db : Trees) : Type 0 where
  pub after : Database
  pub trees : db ≡ after.trees
  pub holds : IsConsistent after
  pub world : world_of db ≡ world_in First first

-- own tables with a good world; an opening fails only for a fault of the store or want of memory
pub record Reopens (found : Database) : Type 0 where
  pub current : IsCurrentSchema found.schema
  pub stands : HasGoodWorld found.trees
  pub faults : (fault : OpenFault) → IsTrueOfOpening fault found.trees → (fault ≡ opening.Store) ⊎ (fault ≡ opening.Memory)

-- version 1 with a good world; an upgrade fails only for a fault of the store or want of memory
pub record UpgradesYet (found : Database) : Type 0 where
  pub first : IsFirstSchema found.schema
  pub stands : HasGoodFirst first_version found.trees
  pub faults : (fault : UpgradeFault) → IsTrueOfUpgrading fault found.trees → (fault ≡ upgrading.Store) ⊎ (fault ≡ upgrading.Memory)

-- after a crash in a change, the store opens with the world before or after it
abbrev pub OpensAgain : Type 0
OpensAgain =
    (change : Change) (old found : Database) → IsConsistent old → Good (world_of old.trees)
    → Good (changed (world_of old.trees) change) → IsLeft change old found.trees → IsDatabase found
    → Reopens found × ((world_of found.trees ≡ world_of old.trees)
    ⊎ (world_of found.trees ≡ changed (world_of old.trees) change))

-- what `create` makes opens with the empty world in setup
abbrev pub OpensFresh : Type 0
OpensFresh =
    (office : Key) (made found : Database) → IsTrue (is_code office) → IsFresh office made → found.trees ≡ made.trees
    → IsDatabase found → Reopens found × (world_of found.trees ≡ first_world office)

-- after a crash in an upgrade, the old tables can be upgraded or the new ones opened: same world
abbrev pub UpgradesAgain : Type 0
UpgradesAgain =
    (old found : Database) → IsFirstSchema old.schema → IsDatabase old → HasGoodFirst first_version old.trees
    → IsDatabase found
    → (found.trees ≡ old.trees → UpgradesYet found × (world_in First found.trees ≡ world_in First old.trees))
    × ((after : Database) → Upgrades old after → found.trees ≡ after.trees → Reopens found
    × (world_of found.trees ≡ world_in First old.trees))
