-- The lists that the tables hold of the owners whose rows are shown.
use Rattle.std.specs.Prelude.{◌≡◌, ◌==◌, if◌then◌else◌}
use Rattle.portal_tables.specs.inner.Base.{Vec, true, false, Bool, List, [], Option, Some, None, map, filter_map}
use Rattle.portal_tables.specs.inner.Base.{AllByRecursion, Global, Row, column, Trees, Round, First, Second, number_in, is_key, Key}
use Rattle.portal_tables.specs.inner.Base.{has, Rise}
pub use Rattle.portal_tables.specs.Tables.{tree_of}
use Rattle.portal_tables.specs.Tables.{ranked2_tree}
use Rattle.portal_tables.specs.Rows.{row_key, IsWhole, by_place, chosen, named_by, of_key}
use Rattle.portal_tables.specs.inner.Shown.{first_cell}
use Rattle.portal_tables.specs.declared.sql.list_table.Lists.{Lists}
use Rattle.portal_tables.specs.declared.sql.list_table.Lists.TheVariants.{Choices, Rankings}

-- the items of an owner's rows, in the order of their places
abbrev pub list_in_order : List Row → List Key
list_in_order rows = map named_by (by_place rows)

-- Each student has a list. A lecturer has one where a ranking is there: in the first round the own
-- row says so, in the second a row of `ranked2`.
abbrev pub has_list : Lists → Trees → Row → Bool
has_list (Choices round) db c = true
has_list (Rankings First) db c = number_in (column c 4) == 1
has_list (Rankings Second) db c = has (map row_key (db ranked2_tree)) (first_cell c)

-- the list of the owner whose row is shown
abbrev pub entry : Lists → Trees → Row → Option (Key × List Key)
entry lists db c = if has_list lists db c then Some (first_cell c, chosen (db (tree_of lists)) (first_cell c)) else None

-- the list of a round of the student whose row is shown, and the ranking of the lecturer, if one is
-- there
abbrev pub choice_shown : Round → Trees → Row → List Key
choice_shown round db c = chosen (db (tree_of (Choices round))) (first_cell c)

abbrev pub ranking_shown : Round → Trees → Row → Option (List Key)
ranking_shown round db c = if has_list (Rankings round) db c then Some (chosen (db (tree_of (Rankings round))) (first_cell c)) else None

-- an owner with the list
abbrev pub with_list : Key × Vec Key Global → Key × List Key
with_list e = (e.0, e.1.items)

-- the owner's list names these, and has no gap
pub record IsListOf (owner : Key) (table : List Row) (names : List Key) : Type 0 where
  pub are : names ≡ chosen table owner
  pub whole : IsWhole (of_key owner table)

-- what the reading of it asks
pub record IsFineList (owner : Key) (table : List Row) : Type 0 where
  pub whole : IsWhole (of_key owner table)
  pub keys : AllByRecursion (λ k. is_key k ≡ true) (chosen table owner)

-- the owner's list has no gap, and where there is to be none it has no row
pub record IsRead (lists : Lists) (db : Trees) (c : Row) : Type 0 where
  pub whole : IsWhole (of_key (first_cell c) (db (tree_of lists)))
  pub none : has_list lists db c ≡ false → of_key (first_cell c) (db (tree_of lists)) ≡ []

-- the lists of the owners whose rows are shown, each without a gap
pub record AreEntriesOf (lists : Lists) (db : Trees) (owners : List Row) (entries : List (Key × List Key)) : Type 0 where
  pub are : entries ≡ filter_map (entry lists db) owners
  pub read : AllByRecursion (IsRead lists db) owners

-- what the reading of an owner's key and list asks
pub record IsFine (lists : Lists) (db : Trees) (c : Row) : Type 0 where
  pub key : is_key (first_cell c) ≡ true
  pub read : IsRead lists db c
  pub names : AllByRecursion (λ k. is_key k ≡ true) (chosen (db (tree_of lists)) (first_cell c))

-- the keys of the owners whose rows are shown rise, and each row of a list is of one of them
pub record AreOwned (lists : Lists) (db : Trees) (owners : List Row) : Type 0 where
  pub rise : Rise (map first_cell owners)
  pub known : AllByRecursion (λ r. has (map first_cell owners) (row_key r) ≡ true) (db (tree_of lists))
