-- How a call ends that makes a change.
use Rattle.std.specs.Prelude.{◌≡◌, false, IsTrue, Result, OnOk, OnErr}
use Rattle.sqlite.specs.Effect.{Database}
use Rattle.sqlite.specs.State.{State, HasCleanDisk, Survives}
use Rattle.portal_tables.specs.Tables.{IsCurrentSchema}
use Rattle.portal_tables.specs.Steps.{Commits, IsAfter, LeavesOnly, Stays}

-- Over tables that are the portal's own in both rounds: after Ok the change is made and committed,
-- and a crash leaves that alone; after an error nothing is changed; and whatever came, no
-- transaction is begun, and a crash leaves what it left before, or what the change made.
pub record CommitsChange {V E : Type 0} (Change : Database → Database → Type 0) (result : Result V E) (old new : State) : Type 0 where
  pub ok : IsCurrentSchema old.now.schema → HasCleanDisk new → OnOk result (Commits Change old new)
  pub err : IsCurrentSchema old.now.schema → HasCleanDisk new → IsTrue new.is_open → OnErr result (Stays old new)
  pub mode : old.in_transaction ≡ false → new.in_transaction ≡ false
  pub durable : IsCurrentSchema old.now.schema → HasCleanDisk new → OnOk result (LeavesOnly new)
  pub crash : Survives old new (λ db. IsCurrentSchema old.now.schema → IsAfter Change old db)

-- a stop leaves what it left before, or what the change made of the own tables of an open connection
abbrev pub LeavesMade : (Database → Database → Type 0) → State → State → Type 0
LeavesMade Change old new =
    Survives old new (λ db. IsTrue old.is_open × (IsCurrentSchema old.now.schema → IsAfter Change old db))
