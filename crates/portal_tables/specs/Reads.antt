-- What a read does to a connection, and what it returns.
use Rattle.std.specs.Prelude.{◌≡◌, ◌⊎◌, MatchResult, IfErr, IsSome}
use Rattle.sqlite_disk.specs.Disk.{MoreFaults}
use Rattle.sqlite.specs.declared.error.Error.{Error}
use Rattle.portal_tables.specs.inner.Base.{SqliteFailure, OutOfMemory}
use Rattle.portal_tables.specs.Base.{IsTrue, false, Result, IfOk, OnOk, OnErr, Database, Schema, Held, state}
use Rattle.portal_tables.specs.Base.{State, HasCleanDisk, IsUnchanged, IsRolledBack, Survives, Ghosts, Round}
use Rattle.portal_tables.specs.Base.{First, Second}
use Rattle.portal_tables.specs.declared.fault.TableFault.{TableFault}
use Rattle.portal_tables.specs.declared.fault.TableFault.TheVariants.{Damaged, Store}
use Rattle.portal_tables.specs.Steps.{Stays}
use Rattle.portal_tables.specs.Tables.{HasFirstSchema, IsCurrentSchema}

-- what the schema has to have so that the tables of a round can be read
abbrev pub HasRound : Round → Schema → Type 0
HasRound First = HasFirstSchema
HasRound Second = IsCurrentSchema

-- nothing is changed, or the open transaction is rolled back
abbrev pub IsUnchangedOrUndone : State → State → Type 0
IsUnchangedOrUndone old new = IsUnchanged old new ⊎ IsRolledBack old new

-- why the store fails: the disk failed in the call, the connection was shut, or a limit is set on the steps of
-- its queries
abbrev pub HasReason : State → State → Type 0
HasReason old new = MoreFaults old.faults new.faults ⊎ ((old.is_open ≡ false) ⊎ IsSome old.step_limit)

-- the fault is the store's: an error other than want of memory
abbrev pub IsStoreFault : TableFault → Type 0
IsStoreFault fault = fault ≡ Store

abbrev pub IsOtherError : Error → Type 0
IsOtherError e = e ≡ SqliteFailure OutOfMemory → ⊥

-- no error is said to be the store's
abbrev pub NoFault : {E : Type 0} → E → Type 0
NoFault e = ⊥

-- What a read leaves, if `On` holds of the connection, whatever the schema; over a `Right` database
-- with the portal's own tables `Told` holds too. A fault that is the store's has a reason over the
-- portal's own tables.
pub record Reading (round : Round) (On : State → Type 0) (Right : Database → Type 0) {V E : Type 0} (IsStores : E → Type 0) (Told : Database → Result V E → Type 0) (result : Result V E) (old new : State) : Type 0 where
  pub same : HasCleanDisk new → On old → OnOk result (IsUnchanged old new)
  pub err : HasCleanDisk new → On old → OnErr result (IsUnchangedOrUndone old new)
  pub now : HasCleanDisk new → OnOk result (new.now ≡ old.now)
  pub mode : old.in_transaction ≡ false → new.in_transaction ≡ false
  pub crash : Survives old new (λ _. ⊥)
  pub told : HasRound round old.now.schema → Right old.now → HasCleanDisk new → Told old.now result
  pub reason : HasRound round old.now.schema → HasCleanDisk new → IfErr result (λ e. IsStores e → HasReason old new)

-- all was committed
abbrev pub IsCommitted : State → Type 0
IsCommitted s = IsTrue s.is_open → s.now ≡ s.committed

-- What a call leaves that only looks at the tables, whatever the schema and the answer: nothing has
-- changed outside a transaction, and a crash leaves what it left before.
pub record OnlyLooks (old new : State) : Type 0 where
  pub stays : IsCommitted old → HasCleanDisk new → IsTrue new.is_open → Stays old new
  pub mode : old.in_transaction ≡ false → new.in_transaction ≡ false
  pub crash : Survives old new (λ _. ⊥)

-- no condition on the connection
abbrev pub Anyhow : State → Type 0
Anyhow _ = Unit {0}

-- a read that fails with errors of some type, of which these are the store's
abbrev pub ReadsOr : {S V E : Type 0} → (E → Type 0) → Round → Ghosts S → (Database → Type 0)
    → (Database → Result V E → Type 0) → Result V E → Held S → Held S → Type 0
ReadsOr IsStores round g Right Told result old new =
    Reading round Anyhow Right IsStores Told result (state g old) (state g new)

abbrev pub Reads : {S V : Type 0} → Round → Ghosts S → (Database → Type 0)
    → (Database → Result V TableFault → Type 0) → Result V TableFault → Held S → Held S → Type 0
Reads round g Right Told result old new = ReadsOr IsStoreFault round g Right Told result old new

-- `Answer` holds of what a read returns, if it succeeds
abbrev pub Gives : {V E : Type 0} → (Database → V → Type 0) → Database → Result V E → Type 0
Gives Answer db result = IfOk result (Answer db)

abbrev pub IfOpen : State → Type 0
IfOpen s = IsTrue s.is_open

abbrev pub Always : Database → Type 0
Always _ = Unit {0}

-- a read that may make no query, of an open connection
abbrev pub MayReadOr : {S V E : Type 0} → (E → Type 0) → Round → Ghosts S → (Database → Type 0)
    → (Database → Result V E → Type 0) → Result V E → Held S → Held S → Type 0
MayReadOr IsStores round g Right Told result old new =
    Reading round IfOpen Right IsStores Told result (state g old) (state g new)

abbrev pub MayRead : {S V : Type 0} → Round → Ghosts S → (Database → Type 0)
    → (Database → Result V TableFault → Type 0) → Result V TableFault → Held S → Held S → Type 0
MayRead round g Right Told result old new = MayReadOr IsStoreFault round g Right Told result old new

-- `Answer` holds of an answer, `Fault` of an error
abbrev pub GivesOrFails : {V E : Type 0} → (Database → V → Type 0) → (Database → E → Type 0) → Database → Result V E
    → Type 0
GivesOrFails Answer Fault db result = MatchResult result (Answer db) (Fault db)

-- the fault `Damaged` says that this is not so
abbrev pub Blames : TableFault → Type 0 → Type 0
Blames fault so = fault ≡ Damaged → so → ⊥
