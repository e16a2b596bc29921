-- What putting a list into its table does: the rows of its owner are the places from 1, and no
-- other row is touched.
use Rattle.std.specs.Prelude.{◌≡◌, ◌+◌, ◌||◌, ◌∷◌}
use Rattle.portal_tables.specs.inner.Base.{ℕ, pos, false, List, [], map, IsPermutation, Row, Database, IsDatabase, Key}
use Rattle.portal_tables.specs.inner.Base.{equals, has}
use Rattle.portal_tables.specs.Tables.{IsCurrentSchema, ranked2_tree, assigned2_tree}
use Rattle.portal_tables.specs.Rows.{RowNumbersDiffer, row_key, of_key, place_of, named_by}
use Rattle.portal_tables.specs.inner.Changes.{Keeps, with_rows}
use Rattle.portal_tables.specs.inner.RowChanges.{place_cells, pair_new}

-- the places from n, each beside what stands there
abbrev pub numbered : ℕ → List Key → List (ℕ × Key)
numbered n [] = []
numbered n (k ∷ ks) = (n, k) ∷ numbered (n + 1) ks

-- the cells of the rows of a list, in whichever table of lists
abbrev pub list_cells : Key → List Key → List Row
list_cells owner list = map (λ p. place_cells owner (pos p.0) p.1) (numbered 1 list)

abbrev pub placed : Row → ℕ × Key
placed r = (place_of r, named_by r)

-- in the table of lists with this tree, the owner has this list in place of any other
pub record HasPut (tree : ℕ) (owner : Key) (list : List Key) (old new : Database) : Type 0 where
  pub schema_is : new.schema ≡ old.schema
  pub sound : IsDatabase new
  pub apart : RowNumbersDiffer (new.trees tree)
  pub tables : Keeps tree old new
  pub others : (key : Key) → equals key owner ≡ false → of_key key (new.trees tree) ≡ of_key key (old.trees tree)
  pub places : IsPermutation (map placed (of_key owner (new.trees tree))) (numbered 1 list)

abbrev pub PutsList : ℕ → Key → List Key → Database → Database → Type 0
PutsList tree owner list old new =
    IsCurrentSchema old.schema → RowNumbersDiffer (old.trees tree) → HasPut tree owner list old new

-- the result of the second round is these pairs, in place of any other
pub record HasPlacements (pairs : List (Key × Key)) (old new : Database) : Type 0 where
  pub schema_is : new.schema ≡ old.schema
  pub sound : IsDatabase new
  pub apart : RowNumbersDiffer (new.trees assigned2_tree)
  pub tables : Keeps assigned2_tree old new
  pub rows : new.trees assigned2_tree ≡ with_rows [] (map pair_new pairs)

abbrev pub PutsPlacements : List (Key × Key) → Database → Database → Type 0
PutsPlacements pairs old new =
    IsCurrentSchema old.schema → RowNumbersDiffer (old.trees assigned2_tree) → HasPlacements pairs old new

-- the lecturer is one of those with a ranking in the second round, and who else is one has not
-- changed
pub record HasRanked (lecturer : Key) (old new : Database) : Type 0 where
  pub schema_is : new.schema ≡ old.schema
  pub sound : IsDatabase new
  pub apart : RowNumbersDiffer (new.trees ranked2_tree)
  pub tables : Keeps ranked2_tree old new
  pub known : (k : Key)
      → has (map row_key (new.trees ranked2_tree)) k ≡ (equals k lecturer || has (map row_key (old.trees ranked2_tree)) k)

abbrev pub RanksSecond : Key → Database → Database → Type 0
RanksSecond lecturer old new =
    IsCurrentSchema old.schema → RowNumbersDiffer (old.trees ranked2_tree) → HasRanked lecturer old new
