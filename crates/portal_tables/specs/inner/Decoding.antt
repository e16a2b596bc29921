-- What rows that a query shows are decoded to, and whether there are any.
use Rattle.std.specs.Prelude.{◌≡◌, ◌∷◌, ◌++◌, IfErr}
use Rattle.portal_tables.specs.inner.Base.{ℕ, Bool, true, false, not, List, [], map, Row, State, Begins, IsUnchanged}
use Rattle.portal_tables.specs.inner.Base.{is_empty, Result, Ok, Err, IfOk, OnOk, OnErr, Vec, Global, Held, state}
use Rattle.portal_tables.specs.inner.Base.{Ghosts, HasCleanDisk, Survives, Shown, IsPlain, understood, Error}
use Rattle.sqlite_resolve.specs.declared.compiled.Compiled.{Compiled}
use Rattle.sqlite_resolve.specs.declared.error.CompileError.{CompileError}
use Rattle.portal_tables.specs.Reads.{IsUnchangedOrUndone, IsOtherError}
use Rattle.sqlite.specs.State.{FailsToQuery}
use Rattle.portal_tables.specs.declared.fault.TableFault.{TableFault}
use Rattle.portal_tables.specs.declared.fault.TableFault.TheVariants.{Damaged, Store}

-- these are what the rows that are shown are decoded to, in their order
pub record ShowsAs {T : Type 0} (decode : Row → T) (IsShown : List Row → Type 0) (items : List T) : Type 0 where
  pub rows : List Row
  pub shown : IsShown rows
  pub decoded : items ≡ map decode rows

-- A row was refused, after some that were not: what the text shows begins with them, nothing has
-- changed, and the row is not fine.
pub record Refuses (is_fine : Row → Type 0) (sql : List ℕ) (params : Row) (old new : State) : Type 0 where
  pub before : List Row
  pub row : Row
  pub begins : Begins sql params new (before ++ row ∷ [])
  pub same : IsUnchanged old new
  pub refused : is_fine row → ⊥

-- a query failed with an error that is not want of memory
abbrev pub Stops : List ℕ → Row → State → State → Type 0
Stops sql params old new = (e : Error) × IsOtherError e × FailsToQuery sql params old new e

-- it is told whether there are rows that are shown
pub record FindsAny (IsShown : List Row → Type 0) (found : Bool) : Type 0 where
  pub rows : List Row
  pub shown : IsShown rows
  pub told : found ≡ not (is_empty rows)

-- if the text is understood, it is a plain query
abbrev pub IsPlainIfAny : Result Compiled CompileError → Type 0
IsPlainIfAny (Ok c) = IsPlain (Ok c)
IsPlainIfAny (Err e) = Unit {0}

-- What a plain query leaves: nothing is changed, or after an error the open transaction is rolled
-- back; and what a crash leaves.
pub record Leaves {S V E : Type 0} (g : Ghosts S) (sql : List ℕ) (result : Result V E) (old new : Held S) : Type 0 where
  pub same : IsPlainIfAny (understood old.schema sql) → HasCleanDisk (state g new)
      → OnOk result (IsUnchanged (state g old) (state g new))
  pub err : IsPlainIfAny (understood old.schema sql) → HasCleanDisk (state g new)
      → OnErr result (IsUnchangedOrUndone (state g old) (state g new))
  pub mode : old.in_transaction ≡ false → new.in_transaction ≡ false
  pub survives : Survives (state g old) (state g new) (λ _. IsPlainIfAny (understood old.schema sql) → ⊥)

-- What it comes to that each row of a query is decoded as it is read.
pub record ReadsEach {S T : Type 0} (g : Ghosts S) (decode : Row → T) (is_fine : Row → Type 0) (sql : List ℕ) (params : Row) (result : Result (Vec T Global) TableFault) (old new : Held S) : Type 0 where
  pub leaves : Leaves g sql result old new
  pub rows : IsPlainIfAny (understood old.schema sql) → HasCleanDisk (state g new)
      → IfOk result (λ v. ShowsAs decode (Shown sql params (state g old) (state g new)) v.items)
  pub undamaged : result ≡ Err Damaged → ((c : Row) → is_fine c) → ⊥
  pub refused : IsPlainIfAny (understood old.schema sql) → HasCleanDisk (state g new) → result ≡ Err Damaged
      → Refuses is_fine sql params (state g old) (state g new)
  pub stopped : IsPlainIfAny (understood old.schema sql) → HasCleanDisk (state g new) → result ≡ Err Store
      → Stops sql params (state g old) (state g new)

-- What it comes to that at most one row of a query is read.
pub record FindsRow {S : Type 0} (g : Ghosts S) (sql : List ℕ) (params : Row) (result : Result Bool Error) (old new : Held S) : Type 0 where
  pub leaves : Leaves g sql result old new
  pub none : IsPlainIfAny (understood old.schema sql) → HasCleanDisk (state g new)
      → IfOk result (λ found. found ≡ false → Shown sql params (state g old) (state g new) [])
  pub some : IsPlainIfAny (understood old.schema sql) → HasCleanDisk (state g new)
      → IfOk result (λ found. found ≡ true → (first : Row) × Begins sql params (state g new) (first ∷ []))
  pub stopped : IsPlainIfAny (understood old.schema sql) → HasCleanDisk (state g new)
      → IfErr result (λ e. IsOtherError e → Stops sql params (state g old) (state g new))
