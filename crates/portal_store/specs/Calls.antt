-- What the calls of a store promise: those that make one, those that refuse to, and those of a keeper.
use Rattle.std.specs.Prelude.{◌≡◌, ◌↔◌, Result, false, IfErr, OnOk, IsTrue}
use Rattle.sqlite.specs.Held.{Held, state}
use Rattle.sqlite.specs.State.{HasCleanDisk, IsUnchanged, Survives}
use Rattle.sqlite.specs.Store.{Ghosts}
use Rattle.sqlite.specs.Tree.{Trees}
use Rattle.portal_rules.specs.Words.{Key}
use Rattle.portal_rules.specs.World.{Change}
use Rattle.portal_rules.specs.Good.{Good}
use Rattle.portal_rules.specs.Keeping.{IsSettled, KeepsGood}
use Rattle.portal_rules.specs.declared.keeper.KeepFault.{KeepFault}
use Rattle.portal_rules.specs.declared.keeper.KeepFault.TheVariants as keep
use Rattle.portal_rules.specs.declared.phase.Round.TheVariants.{First}
use Rattle.portal_tables.specs.Tables.{IsCurrentSchema, IsFirstSchema, no_schema}
use Rattle.portal_tables.specs.Making.{Creates, Upgrades, has_names}
use Rattle.portal_tables.specs.declared.sql.names.Names.TheVariants.{All, OfSecond}
use Rattle.portal_tables.specs.Reads.{HasReason}
use Rattle.portal_tables.specs.Steps.{Commits, IsAfter, LeavesOnly, Stays}
use Rattle.portal_store.specs.World.{first_world, world_in}
use Rattle.portal_store.specs.Kept.{HasDisk, IsCleanStore, IsConsistent, IsTransition, Lasts, LeavesConsistent, StoreState}
use Rattle.portal_store.specs.Kept.{kept_state, kept_world}
use Rattle.portal_store.specs.Crash.{AfterCreating, AfterUpgrading, AreBarred, AreOpened, AreRefused, AreUpgraded}
use Rattle.portal_store.specs.Crash.{IsLeft, IsUpgradedFrom, LeavesUpgraded}
use Rattle.portal_store.specs.declared.store.CreateFault.{CreateFault}
use Rattle.portal_store.specs.declared.store.CreateFault.TheVariants as creating
use Rattle.portal_store.specs.declared.store.OpenFault.{OpenFault}
use Rattle.portal_store.specs.declared.store.UpgradeFault.{UpgradeFault}
use Rattle.portal_store.specs.declared.store.UpgradeFault.TheVariants as upgrading

-- a store was made of the connection; `Own` says that its schema was as expected, and `After` which
-- tables a crash may newly leave
pub record MakesStore {S : Type 0} (g : Ghosts S) (Own : Type 0) (After : Trees → Type 0) (old : Held S)
    (s : StoreState S) : Type 0 where
  -- the tables are the portal's own exactly in that case
  pub own : IsTrue s.own ↔ Own
  -- no fault is counted yet
  pub counted : s.faults ≡ 0
  -- if the store is clean, its world is good
  pub good : KeepsGood (kept_state g s)
  -- and a stop leaves only this world
  pub settled : IsCleanStore g s → IsSettled (kept_state g s)
  -- its tables are such as each change may rely on
  pub consistent : IsCleanStore g s → IsConsistent (state g s.conn).now
  -- and so is, of own tables, whatever a stop may leave
  pub left : LeavesConsistent g s
  -- on a clean disk, a crash leaves what one before the call left, or tables of which `After` holds
  pub crash : Survives (state g old) (state g s.conn) After

-- no store was made, and the connection is handed back; `After` is as above
pub record HandsBack {S : Type 0} (g : Ghosts S) (After : Trees → Type 0) (old new : Held S) : Type 0 where
  -- it is in no transaction
  pub idle : new.in_transaction ≡ false
  -- if it is open, over a clean disk, its tables are as they were
  pub stays : HasCleanDisk (state g new) → IsTrue (state g new).is_open → Stays (state g old) (state g new)
  -- on a clean disk, a crash leaves what one before the call left, or tables of which `After` holds
  pub crash : Survives (state g old) (state g new) After

-- the portal's tables were made, with this office code
pub record CreatesStore {S : Type 0} (g : Ghosts S) (office : Key) (old : Held S) (s : StoreState S) : Type 0 where
  pub makes : MakesStore g (old.schema ≡ no_schema) (IsAfter (Creates office) (state g old)) old s
  -- no table had one of the eleven names
  pub free : has_names All old.schema ≡ false
  -- in an empty schema, the tables were made in one commit
  pub commits : HasDisk g s → Commits (Creates office) (state g old) (state g s.conn)
  -- own tables stand for the empty world in setup
  pub world : IsCleanStore g s → kept_world g s ≡ first_world office
  -- a crash leaves only what was committed
  pub durable : HasDisk g s → LeavesOnly (state g s.conn)

-- they were not, for this fault
pub record RefusesToCreate {S : Type 0} (g : Ghosts S) (office : Key) (fault : CreateFault)
    (old new : Held S) : Type 0 where
  pub back : HandsBack g (AfterCreating fault office (state g old)) old new
  -- `Exists` means that a table or view has one of the eleven names
  pub exists : IsTrue (has_names All old.schema) ↔ (fault ≡ creating.Exists)
  -- and the connection is untouched then
  pub untouched : fault ≡ creating.Exists → new ≡ old

-- the portal's tables were opened
pub record OpensStore {S : Type 0} (g : Ghosts S) (old : Held S) (s : StoreState S) : Type 0 where
  pub makes : MakesStore g (IsCurrentSchema old.schema) (λ _. ⊥) old s
  -- no tables were changed
  pub stays : HasDisk g s → IsTrue (state g s.conn).is_open → Stays (state g old) (state g s.conn)
  -- and a connection to own tables is as before, so that the store is clean
  pub same : IsCurrentSchema old.schema → HasDisk g s → IsUnchanged (state g old) (state g s.conn)
  -- the tables are such as may be opened
  pub judged : HasDisk g s → AreOpened (state g old)

-- they were not, for this fault
pub record RefusesToOpen {S : Type 0} (g : Ghosts S) (fault : OpenFault) (old new : Held S) : Type 0 where
  pub back : HandsBack g (λ _. ⊥) old new
  -- the fault tells what was found
  pub judged : HasCleanDisk (state g new) → AreRefused fault (state g old)

-- tables of version 1 were upgraded to version 2
pub record UpgradesStore {S : Type 0} (g : Ghosts S) (old : Held S) (s : StoreState S) : Type 0 where
  pub makes : MakesStore g (IsFirstSchema old.schema) (LeavesUpgraded (state g old)) old s
  -- no table had one of the five new names
  pub free : has_names OfSecond old.schema ≡ false
  -- the tables were such as may be upgraded
  pub judged : HasDisk g s → AreUpgraded (state g old)
  -- they were upgraded in one commit
  pub commits : HasDisk g s → Commits Upgrades (state g old) (state g s.conn)
  -- own ones stand for the same world
  pub world : IsCleanStore g s → kept_world g s ≡ world_in First (state g old).now.trees
  -- a crash leaves only what was committed
  pub durable : HasDisk g s → LeavesOnly (state g s.conn)
  -- of own tables, whatever it leaves has the same world
  pub left : IsFirstSchema old.schema → Survives (state g old) (state g s.conn) (IsUpgradedFrom (state g old).now.trees)

-- they were not, for this fault
pub record RefusesToUpgrade {S : Type 0} (g : Ghosts S) (fault : UpgradeFault) (old new : Held S) : Type 0 where
  pub back : HandsBack g (AfterUpgrading fault (state g old)) old new
  -- the fault tells what was found
  pub judged : HasCleanDisk (state g new) → AreBarred fault (state g old)
  -- `Exists` means that a table or view has one of the five new names, whatever the disk is
  pub taken : fault ≡ upgrading.Exists → IsTrue (has_names OfSecond old.schema)
  -- of own tables, whatever a crash leaves has the same world
  pub left : IsFirstSchema old.schema → Survives (state g old) (state g new) (IsUpgradedFrom (state g old).now.trees)

-- what every call of a keeper leaves of a store
pub record StaysStore {S : Type 0} (g : Ghosts S) (old new : StoreState S) : Type 0 where
  -- whether its tables were own when it was made
  pub own : new.own ≡ old.own
  -- a clean store stays clean unless the disk fails
  pub lasts : Lasts g old new

-- A call that only looks at a clean store of a good world answers `Store` for a reason: the disk failed
-- in the call, or a limit is set on the steps of queries.
abbrev pub HasStoreReason : {S V : Type 0} → Ghosts S → Result V KeepFault → StoreState S → StoreState S → Type 0
HasStoreReason g r old new =
    IsCleanStore g old → Good (kept_world g old) → HasDisk g new
    → IfErr r (λ fault. fault ≡ keep.Store → HasReason (state g old.conn) (state g new.conn))

-- what a change does to own tables
pub record ChangesTables {S V E : Type 0} (g : Ghosts S) (change : Change) (r : Result V E)
    (old new : StoreState S) : Type 0 where
  -- if it succeeds, it is made in one commit
  pub commits : IsTrue old.own → HasDisk g new
      → OnOk r (Commits (IsTransition change) (state g old.conn) (state g new.conn))
  -- and a crash leaves only what was committed
  pub durable : IsTrue old.own → HasDisk g new → OnOk r (LeavesOnly (state g new.conn))
  -- a crash leaves what one before the call left, or the changed tables
  pub crash : IsTrue old.own
      → Survives (state g old.conn) (state g new.conn) (IsAfter (IsTransition change) (state g old.conn))
  -- of a clean store it leaves the tables before the change, or those of the changed world
  pub left : IsCleanStore g old → HasDisk g new → (db : Trees) → (state g new.conn).may_leave db
      → IsLeft change (state g old.conn).now db
