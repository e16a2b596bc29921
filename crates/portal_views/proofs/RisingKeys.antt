-- Query keys of a lecturer's projects, a project's choosers and list owners rise: no two are equal.
use Rattle.portal_views.proofs.Base.{◌≡◌, ◌&&◌, ◌∷◌, arith, pos, has_number, filter_all, not_true, IsPlace, kept}
use Rattle.portal_views.proofs.Base.{rise_put_all, key_texts, Open, schema_with, own_is, ℤ, Bool, true, false, not}
use Rattle.portal_views.proofs.Base.{List, [], map, filter, all-filter, refl, sym, ap, ap₂, subst, ◌∙◌, and_parts}
use Rattle.portal_views.proofs.Base.{append-nil, AllByRecursion, IsDistinct, IsPermutation, list_any, is_eq, Ordering}
use Rattle.portal_views.proofs.Base.{Equal, Int, Words, Binary, Row, column, value_cmp, Trees, rowid, Database, Unique}
use Rattle.portal_views.proofs.Base.{equal, differ, everything, Key, equals, is_own, Rise, all_weaker, project_tree}
use Rattle.portal_views.proofs.Base.{Projects, OfRoll, OfLists, Keeps, Round, First, Second, Choices, tree_of}
use Rattle.portal_views.proofs.Base.{ListsBy, every, columns, has_text, row_key, first_cell, HasTables, roll_rises}
use Rattle.portal_views.proofs.Base.{text_there, equals_int}
use Rattle.std.proofs.lemmas.Bool.Decides.{nat_tests}
use Rattle.std.proofs.lemmas.Int.{ints}
use Rattle.portal_tables.proofs.Base.{value_cmp-Int}
use Rattle.portal_views.proofs.Choosers.{choices_apart, choices_formed}
use Rattle.portal_views.proofs.OneKey.{HasTextKey, IsAlone, kept_distinct, roll_distinct, same_keys, same_text}
use Rattle.portal_tables.proofs.Lists.{sifted}

-- what is shown of a table by its keys, of the rows that pass
kept_rise : (p : Row → Bool) (table shown : List Row) → AllByRecursion HasTextKey table
    → IsDistinct equals (map row_key (filter p table)) → ListsBy (1 ∷ []) p (columns (1 ∷ [])) table shown
    → Rise (map first_cell shown)
kept_rise p table shown texts differ lists =
    let mine : List Row = filter p table in
    let pair : Row → Row × Row = λ r. (columns (1 ∷ []) r, columns (1 ∷ []) r) in
    let whole : ListsBy (1 ∷ []) every (columns (1 ∷ [])) mine shown =
    record {
      keyed = lists.keyed;
      same = subst (λ rows. IsPermutation (map pair rows) lists.keyed) (sym (filter_all mine)) lists.same;
      sorted = lists.sorted;
      is = lists.is;
    } in
    roll_rises [] mine shown whole (all-filter HasTextKey p table texts)
    (rise_put_all row_key mine [] (subst (λ l. IsDistinct equals (map row_key l)) (sym (append-nil mine)) differ) tt)

pub own_rise : (db : Database) → HasTables db → (k : Key) (shown : List Row)
    → ListsBy (1 ∷ []) (has_text 2 k) (columns (1 ∷ [])) (db.trees project_tree) shown → Rise (map first_cell shown)
own_rise db tables k shown lists =
    kept_rise (has_text 2 k) (db.trees project_tree) shown (key_texts db (OfRoll Projects) tables.own tables.sound)
    (roll_distinct db Projects (has_text 2 k) tables.current tables.sound tables.apart.1.1.0) lists

-- A list's twins: one owner's rows for one place, or for one item. Unique indexes leave neither.
abbrev is_place_twin : Row → Row → Bool
is_place_twin other r = (equal Binary (column other 1) (column r 1) && (equal Binary (column other 2) (column r 2) && true))
    && differ (rowid other) (rowid r)

abbrev is_name_twin : Row → Row → Bool
is_name_twin other r = (equal Binary (column other 3) (column r 3) && (equal Binary (column other 1) (column r 1) && true))
    && differ (rowid other) (rowid r)

record HasNoTwin (table : List Row) (r : Row) : Type 0 where
  place : list_any (λ other. is_place_twin other r) table ≡ false
  name : list_any (λ other. is_name_twin other r) table ≡ false

-- the two tests of the indexes
no_twins : (table : List Row) (r : Row) (more : Bool)
    → (not (list_any (λ other. is_place_twin other r) table) && (not (list_any (λ other. is_name_twin other r) table) && more)) ≡ true
    → HasNoTwin table r
no_twins table r more h =
    let two = and_parts (not (list_any (λ other. is_place_twin other r) table)) _ h in
    record { place = not_true _ two.0; name = not_true _ (and_parts (not (list_any (λ other. is_name_twin other r) table)) _ two.1).0 }

no_twin : (round : Round) (o : Open) (db : Trees) (r : Row) → IsAlone (OfLists (Choices round)) o db r
    → HasNoTwin (db (tree_of (Choices round))) r
unfolding everything
no_twin First o db r h = no_twins (db (tree_of (Choices First))) r _ h
no_twin Second o db r h = no_twins (db (tree_of (Choices Second))) r _ h

all_alone : (round : Round) (o : Open) (db : Trees) → Keeps Unique (schema_with Second o) db
    → AllByRecursion (IsAlone (OfLists (Choices round)) o db) (db (tree_of (Choices round)))
all_alone First o db all = all.1.1.1.1.0
all_alone Second o db all = all.1.1.1.1.1.1.1.0

text_key : (r : Row) → IsPlace r → HasTextKey r
text_key r x = (x.owner, ap (λ s. column s 1) x.is)

own_text : (k : Key) → equal Binary (Words k) (Words k) ≡ true
own_text k = (and_parts (equal Binary (Words k) (Words k)) true (same_text k k ∙ is_own k)).0

-- a row that names the project, and one for the first place
abbrev Names : Key → Row → Type 0
Names k r = IsPlace r × (has_text 3 k r ≡ true)

abbrev IsFirst : Row → Type 0
IsFirst r = IsPlace r × (has_number 2 1 r ≡ true)

name_twins : (k : Key) (r s : Row) → Names k r → Names k s
    → is_name_twin r s ≡ (equals (row_key r) (row_key s) && differ (rowid r) (rowid s))
name_twins k r s x y =
    let a = text_there 3 k r x.1 in
    let b = text_there 3 k s y.1 in
    let named : equal Binary (column r 3) (column s 3) ≡ true = (λ i. equal Binary (a i) (b i)) ∙ own_text k in
    ap₂ (λ u v. (u && v) && differ (rowid r) (rowid s)) named (same_keys r s (text_key r x.0) (text_key s y.0))

tied : (o : Ordering) → is_eq o ≡ true → o ≡ Equal
tied Equal e = refl
tied _ e = absurd (cc)

one_is : (n : ℤ) → is_eq (value_cmp (Int n) (Int (pos 1))) ≡ true → n ≡ pos 1
one_is n e = let same = sym (value_cmp-Int n (pos 1)) ∙ tied _ e in grind (arith, ints, nat_tests, same)

place_twins : (r s : Row) → IsFirst r → IsFirst s
    → is_place_twin r s ≡ (equals (row_key r) (row_key s) && differ (rowid r) (rowid s))
place_twins r s x y =
    let number : column s 2 ≡ Int y.0.place = ap (λ c. column c 2) y.0.is in
    let b : column s 2 ≡ Int (pos 1) = number
    ∙ ap Int (one_is y.0.place (sym (ap (λ v. is_eq (value_cmp v (Int (pos 1)))) number) ∙ y.1)) in
    let placed : equal Binary (column r 2) (column s 2) ≡ true =
    (λ i. equal Binary (column r 2) (b i)) ∙ (and_parts (equal Binary (column r 2) (Int (pos 1))) true
    (equals_int (column r 2) (pos 1) ∙ x.1)).0 in
    ap (λ u. (equal Binary (column r 1) (column s 1) && (u && true)) && differ (rowid r) (rowid s)) placed
    ∙ ap (λ v. v && differ (rowid r) (rowid s)) (same_keys r s (text_key r x.0) (text_key s y.0))

module _ (round : Round) (db : Database) (tables : HasTables db) where
  abbrev table : List Row
  table = db.trees (tree_of (Choices round))

  places : AllByRecursion IsPlace table
  places = choices_formed round db tables

  texts : AllByRecursion HasTextKey table
  texts = all_weaker IsPlace HasTextKey text_key table places

  none : AllByRecursion (HasNoTwin table) table
  none =
      let w = own_is Second db.schema tables.current in
      all_weaker _ (HasNoTwin table) (no_twin round w.o db.trees) table
      (all_alone round w.o db.trees (kept Second db tables.sound Unique w))

  pub choosers_rise : (k : Key) (shown : List Row) → ListsBy (1 ∷ []) (has_text 3 k) (columns (1 ∷ [])) table shown
      → Rise (map first_cell shown)
  choosers_rise k shown =
      kept_rise (has_text 3 k) table shown texts
      (kept_distinct (Names k) is_name_twin (name_twins k) (has_text 3 k) table (choices_apart round db tables)
      (sifted IsPlace (has_text 3 k) table places)
      (all_weaker (HasNoTwin table) (λ r. list_any (λ other. is_name_twin other r) table ≡ false) (λ r h. h.name) table none))

  pub listed_rise : (shown : List Row) → ListsBy (1 ∷ []) (has_number 2 1) (columns (1 ∷ [])) table shown
      → Rise (map first_cell shown)
  listed_rise shown =
      kept_rise (has_number 2 1) table shown texts
      (kept_distinct IsFirst is_place_twin place_twins (has_number 2 1) table (choices_apart round db tables)
      (sifted IsPlace (has_number 2 1) table places)
      (all_weaker (HasNoTwin table) (λ r. list_any (λ other. is_place_twin other r) table ≡ false) (λ r h. h.place) table none))
