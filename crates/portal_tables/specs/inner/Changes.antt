-- What a statement does to the rows of one table, and what a query shows of them.
use Rattle.std.specs.Prelude.{◌≡◌, ◌≢◌, ◌∷◌}
use Rattle.portal_tables.specs.inner.Base.{ℕ, pos, Bool, true, false, not, List, [], map, filter, ⊤, AllByRecursion}
use Rattle.portal_tables.specs.inner.Base.{IsPermutation, IsSorted, is_eq, Int, Binary, ascending, key_cmp, Row}
use Rattle.portal_tables.specs.inner.Base.{value_cmp, column, next_rowid, is_taken, put_row, Database, IsDatabase}
use Rattle.portal_tables.specs.Tables.{own_trees}
use Rattle.portal_tables.specs.Rows.{RowNumbersDiffer}

-- the other tables are as they were
abbrev pub Keeps : ℕ → Database → Database → Type 0
Keeps tree old new = AllByRecursion (λ t. t ≢ tree → new.trees t ≡ old.trees t) own_trees

-- the table once rows with these cells have come, one after the other, each with the number after
-- the last
abbrev pub with_rows : List Row → List Row → List Row
with_rows table [] = table
with_rows table (c ∷ cells) = with_rows (put_row (Int (next_rowid table) ∷ c) table) cells

-- no row has the number that one of these gets
abbrev pub AreNew : List Row → List Row → Type 0
AreNew table [] = ⊤
AreNew table (c ∷ cells) =
    (is_taken table (Int (next_rowid table) ∷ c) ≡ false) × AreNew (put_row (Int (next_rowid table) ∷ c) table) cells

-- more rows, with these cells after their numbers, and nothing else; a row that came leaves a sound
-- database, and none leaves it as it was
pub record InsertsRows (tree : ℕ) (cells : List Row) (old new : Database) : Type 0 where
  pub schema_is : new.schema ≡ old.schema
  pub free : AreNew (old.trees tree) cells
  pub rows : new.trees tree ≡ with_rows (old.trees tree) cells
  pub others : Keeps tree old new
  pub sound : (cells ≡ [] → IsDatabase old) → IsDatabase new

-- the rows that pass the test are gone, and nothing else
pub record Drops (tree : ℕ) (p : Row → Bool) (old new : Database) : Type 0 where
  pub schema_is : new.schema ≡ old.schema
  pub rows : new.trees tree ≡ filter (λ r. not (p r)) (old.trees tree)
  pub others : Keeps tree old new
  pub sound : IsDatabase new

-- in place of the rows that pass stands this one, and nothing else has changed
pub record Sets (tree : ℕ) (p : Row → Bool) (row : Row) (old new : Database) : Type 0 where
  pub schema_is : new.schema ≡ old.schema
  pub free : is_taken (filter (λ r. not (p r)) (old.trees tree)) row ≡ false
  pub rows : new.trees tree ≡ put_row row (filter (λ r. not (p r)) (old.trees tree))
  pub others : Keeps tree old new
  pub sound : IsDatabase new

-- each row of the table shows what is made of a row that was there, one for one, and nothing else
-- has changed
pub record Alters (tree : ℕ) (show made : Row → Row) (old new : Database) : Type 0 where
  pub schema_is : new.schema ≡ old.schema
  pub apart : RowNumbersDiffer (new.trees tree)
  pub rows : IsPermutation (map made (old.trees tree)) (map show (new.trees tree))
  pub others : Keeps tree old new
  pub sound : IsDatabase new

-- the table has this row alone, and nothing else has changed
pub record Becomes (tree : ℕ) (row : Row) (old new : Database) : Type 0 where
  pub schema_is : new.schema ≡ old.schema
  pub rows : new.trees tree ≡ row ∷ []
  pub others : Keeps tree old new
  pub sound : IsDatabase new

-- the number in a column is this one
abbrev pub has_number : ℕ → ℕ → Row → Bool
has_number at n r = is_eq (value_cmp (column r at) (Int (pos n)))

abbrev pub every : Row → Bool
every r = true

-- the columns of a row, by their places
abbrev pub columns : List ℕ → Row → Row
columns places r = map (λ at. column r at) places

-- the rows that pass, as they are shown, by rising values of some columns: these values stand
-- beside each of them
pub record ListsBy (keys : List ℕ) (p : Row → Bool) (show : Row → Row) (table shown : List Row) : Type 0 where
  pub keyed : List (Row × Row)
  pub same : IsPermutation (map (λ r. (columns keys r, show r)) (filter p table)) keyed
  pub sorted : IsSorted (λ a b. key_cmp 0 (map (λ _. ascending Binary) keys) a.0 b.0) keyed
  pub is : shown ≡ map (λ k. k.1) keyed
