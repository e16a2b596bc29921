-- What a transaction leaves, and what a query shows or fails with.
use Rattle.std.specs.Prelude.{◌≡◌, List}
use Rattle.sqlite.specs.State.{FailsToQuery, Shown, store_error}
use Rattle.sqlite.specs.declared.error.Error.{Error}
use Rattle.sqlite_trees.specs.declared.error.StoreError.{StoreError}
use Rattle.portal_tables.specs.Base.{IsTrue, Row, Trees, Database, State}
use Rattle.portal_tables.specs.declared.sql.select.Query.{Query}
use Rattle.portal_tables.specs.QueryTexts.{given, query_text}

-- the change is made and committed
pub record Commits (Change : Database → Database → Type 0) (old new : State) : Type 0 where
  pub was_open : IsTrue old.is_open
  pub is_open : IsTrue new.is_open
  pub settled : new.committed ≡ new.now
  pub changed : Change old.now new.now

-- what a crash may leave of a committed change
abbrev pub IsAfter : (Database → Database → Type 0) → State → Trees → Type 0
IsAfter Change old db = (after : Database) × Change old.now after × (db ≡ after.trees)

-- nothing is changed, and the connection was open
abbrev pub Stays : State → State → Type 0
Stays old new = IsTrue old.is_open × (new.now ≡ old.now) × (new.committed ≡ old.committed)

-- a crash leaves what the connection shows, and nothing else
abbrev pub LeavesOnly : State → Type 0
LeavesOnly s = (db : Trees) → s.may_leave db → db ≡ s.now.trees

-- asked in this state, the query shows these rows and changes nothing
abbrev pub HasAnswer : Query → State → List Row → Type 0
HasAnswer query s rows = Shown (query_text query) (given query) s s rows

-- asked in this state, the query fails with this error and leaves the state as it is
abbrev pub HasRefusal : Query → State → Error → Type 0
HasRefusal query s e = FailsToQuery (query_text query) (given query) s s e

-- the error is one that the store reports, such as a fault of its device or want of memory
abbrev pub IsStoreError : Error → Type 0
IsStoreError e = (cause : StoreError) × (e ≡ store_error cause)
