-- What a step of a transaction does, and what is there when the transaction has ended.
use Rattle.std.specs.Prelude.{◌≡◌, Ok}
use Rattle.sqlite.specs.State.{ExecutesIn, KeepsCommit, Shows}
use Rattle.sqlite.specs.declared.error.Error.{Error}
use Rattle.sqlite.specs.declared.transaction.Transaction.{Transaction}
use Rattle.portal_tables.specs.Base.{true, false, List, ℕ, Result, OnOk, Row, Database, State, HasCleanDisk, Survives}
use Rattle.portal_tables.specs.Base.{Ghosts, state}

-- the text ran inside the transaction, with these values
pub record Ran (sql : List ℕ) (params : Row) (old new : State) : Type 0 where
  pub shown : Shows old new new.now old.committed true
  pub count : ℕ
  pub runs : ExecutesIn false sql params old new (Ok count)

-- the transaction goes on, and made this of the database; what a change asks of the database before
-- it stands in the change
pub record Made (Change : Database → Database → Type 0) (old new : State) : Type 0 where
  pub shown : Shows old new new.now old.committed true
  pub changed : Change old.now new.now

-- an open transaction is still open, and made this of the database
pub record GoesOn (Change : Database → Database → Type 0) (old new : State) : Type 0 where
  pub mode : old.in_transaction ≡ true → new.in_transaction ≡ true
  pub changed : Change old.now new.now

-- What a call leaves that works in a transaction: after Ok it took this step; whatever it answered,
-- the transaction is of the same connection, nothing is committed, and a crash leaves what it left
-- before.
pub record Does {S A : Type 0} (g : Ghosts S) (Step : State → State → Type 0) (result : Result A Error) (old new : Transaction S) : Type 0 where
  pub same_reference : new.conn.ghost_name ≡ old.conn.ghost_name
  pub done : HasCleanDisk (state g new.conn.now) → OnOk result (Step (state g old.conn.now) (state g new.conn.now))
  pub kept : HasCleanDisk (state g new.conn.now) → KeepsCommit (state g old.conn.now) (state g new.conn.now)
  pub survives : Survives (state g old.conn.now) (state g new.conn.now) (λ _. ⊥)
