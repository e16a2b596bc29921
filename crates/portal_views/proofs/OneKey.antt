-- The unique index gives one row to each key of a roll, and one to a student's second-round place.
use Rattle.portal_views.proofs.Base.{◌≡◌, ◌≤◌, ◌&&◌, ◌||◌, ◌∷◌, arith, Open, schema_with, own_is, IsText, filter_all}
use Rattle.portal_views.proofs.Base.{not_true, filter_alike, filter_none, Follows, followed, kept, has_text_of}
use Rattle.portal_views.proofs.Base.{rise_put_all, key_texts, ℤ, Bool, true, false, not, cond, List, [], map, filter}
use Rattle.portal_views.proofs.Base.{all-filter, length, refl, sym, ap, subst, ◌∙◌, and_parts, or_parts, append-nil}
use Rattle.portal_views.proofs.Base.{AllByRecursion, IsDistinct, list_any, is_eq, is_ne, Ordering, Equal, Some, Int}
use Rattle.portal_views.proofs.Base.{Words, Binary, Row, column, bytes, value_cmp, binary, is_true, from_truth, Trees}
use Rattle.portal_views.proofs.Base.{rowid, id_in, Database, IsDatabase, Unique, equal, differ, everything, Key, equals}
use Rattle.portal_views.proofs.Base.{is_sym, is_same, Rise, all_weaker, all_unmap, lecturer_tree, project_tree}
use Rattle.portal_views.proofs.Base.{student_tree, assigned2_tree, roll_tree, OfRoll, OfPlaces, Second, Keeps, passes}
use Rattle.portal_views.proofs.Base.{RollTable, Lecturers, Projects, Students, IsCurrentSchema, RowNumbersDiffer}
use Rattle.portal_views.proofs.Base.{has_text, every, of_key, row_key, by_key, with_checks, current_own, apart_filter}
use Rattle.portal_views.proofs.Base.{form_of, text_equals, equals_text}
use Rattle.portal_tables.specs.declared.sql.select.Table.{Table as Named}

told_not : (o : Ordering) → is_true (from_truth (Some (is_ne o))) ≡ not (is_eq o)
told_not Equal = refl
told_not _ = refl

pub same_text : (s t : Key) → (equal Binary (Words s) (Words t) && true) ≡ equals s t
same_text s t = equals_text (Words s) t ∙ text_equals s t

other_number : (m n : ℤ) → differ (Int m) (Int n) ≡ not (is_eq (value_cmp (Int m) (Int n)))
unfolding binary value_cmp
other_number m n = told_not (value_cmp (Int m) (Int n))

unlike : (a b : Bool) → (a && not b) ≡ false → b ≡ false → a ≡ false
unlike true true h e = e
unlike true false h e = h
unlike false b h e = refl

-- Doubles are good rows with one key and different numbers. Without doubles each key is of one row.
module _ (IsGood : Row → Type 0) (is_double : Row → Row → Bool)
    (says : (r s : Row) → IsGood r → IsGood s → is_double r s ≡ (equals (row_key r) (row_key s) && differ (rowid r) (rowid s))) where
  apart_keys : (r s : Row) → IsGood r → IsGood s → rowid r ≡ Int (id_in (rowid r)) → rowid s ≡ Int (id_in (rowid s))
      → is_double r s ≡ false → is_eq (value_cmp (rowid r) (rowid s)) ≡ false → equals (row_key r) (row_key s) ≡ false
  apart_keys r s x y m n h e =
      let numbers : differ (rowid r) (rowid s) ≡ not (is_eq (value_cmp (rowid r) (rowid s))) =
      (λ i. differ (m i) (n i)) ∙ other_number (id_in (rowid r)) (id_in (rowid s)) ∙ (λ i. not (is_eq (value_cmp (sym m i) (sym n i)))) in
      unlike (equals (row_key r) (row_key s)) (is_eq (value_cmp (rowid r) (rowid s)))
      (sym (says r s x y ∙ ap (λ b. equals (row_key r) (row_key s) && b) numbers) ∙ h) e

  others : (r : Row) (rows : List Row) → IsGood r → rowid r ≡ Int (id_in (rowid r)) → RowNumbersDiffer rows
      → AllByRecursion IsGood rows → AllByRecursion (λ s. is_double r s ≡ false) rows
      → AllByRecursion (λ s. is_eq (value_cmp (rowid r) (rowid s)) ≡ false) rows
      → AllByRecursion (λ k. equals (row_key r) k ≡ false) (map row_key rows)
  others r [] x n numbered all none apart = tt
  others r (s ∷ rows) x n numbered all none apart =
      (apart_keys r s x all.0 n numbered.0 none.0 apart.0, others r rows x n numbered.2 all.1 none.1 apart.1)

  distinct : (rows : List Row) → RowNumbersDiffer rows → AllByRecursion IsGood rows
      → AllByRecursion (λ s. list_any (λ r. is_double r s) rows ≡ false) rows → IsDistinct equals (map row_key rows)
  unfolding IsDistinct
  distinct [] apart all none = tt
  distinct (r ∷ rows) apart all none = (
    others r rows all.0 apart.0 apart.2 all.1
        (all_weaker _ _ (λ s h. (or_parts (is_double r s) (list_any (λ q. is_double q s) rows) h).0) rows none.1) apart.1,
    distinct rows apart.2 all.1 (all_weaker _ _ (λ s h. (or_parts (is_double r s) (list_any (λ q. is_double q s) rows) h).1) rows none.1),
  )

  still_none : (p : Row → Bool) (s : Row) (rows : List Row) → list_any (λ r. is_double r s) rows ≡ false
      → list_any (λ r. is_double r s) (filter p rows) ≡ false
  still_none p s [] h = refl
  still_none p s (r ∷ rows) h =
      let two = or_parts (is_double r s) (list_any (λ q. is_double q s) rows) h in
      let rest = still_none p s rows two.1 in
      elim (p r) as (λ b. list_any (λ q. is_double q s) (cond b (r ∷ filter p rows) (filter p rows))
      ≡ false) [ true ↦ ap (λ b. b || list_any (λ q. is_double q s) (filter p rows)) two.0 ∙ rest | false ↦ rest ]

  -- so it is where some rows are left out
  pub kept_distinct : (p : Row → Bool) (table : List Row) → RowNumbersDiffer table
      → AllByRecursion IsGood (filter p table) → AllByRecursion (λ s. list_any (λ r. is_double r s) table ≡ false) table
      → IsDistinct equals (map row_key (filter p table))
  kept_distinct p table apart good none =
      distinct (filter p table) (apart_filter p table apart) good
      (all-filter _ p table (all_weaker _ (λ s. list_any (λ r. is_double r s) (filter p table) ≡ false)
      (λ s h. still_none p s table h) table none))

-- a row whose key is a text
abbrev pub HasTextKey : Row → Type 0
HasTextKey r = IsText (column r 1)

pub same_keys : (r s : Row) → HasTextKey r → HasTextKey s
    → (equal Binary (column r 1) (column s 1) && true) ≡ equals (row_key r) (row_key s)
same_keys r s x y = (λ i. equal Binary (x.1 i) (y.1 i) && true) ∙ same_text x.0 y.0 ∙ (λ i. equals (bytes (sym x.1 i)) (bytes (sym y.1 i)))

-- another row of the same key
abbrev is_twin : Row → Row → Bool
is_twin other r = (equal Binary (column other 1) (column r 1) && true) && differ (rowid other) (rowid r)

twins : (r s : Row) → HasTextKey r → HasTextKey s
    → is_twin r s ≡ (equals (row_key r) (row_key s) && differ (rowid r) (rowid s))
twins r s x y = ap (λ b. b && differ (rowid r) (rowid s)) (same_keys r s x y)

-- a row of a table whose key is unique has no twin; that is looked for in the indexes of all tables
abbrev pub IsAlone : Named → Open → Trees → Row → Type 0
IsAlone t o db r = passes Unique (schema_with Second o) db (with_checks o.checks o.terms (form_of t)) r ≡ true

no_twin : (roll : RollTable) (o : Open) (db : Trees) (r : Row) → IsAlone (OfRoll roll) o db r
    → list_any (λ other. is_twin other r) (db (roll_tree roll)) ≡ false
unfolding everything
no_twin Lecturers o db r h = not_true (list_any (λ other. is_twin other r) (db lecturer_tree))
    (and_parts (not (list_any (λ other. is_twin other r) (db lecturer_tree))) _ h).0
no_twin Projects o db r h = not_true (list_any (λ other. is_twin other r) (db project_tree))
    (and_parts (not (list_any (λ other. is_twin other r) (db project_tree))) _ h).0
no_twin Students o db r h = not_true (list_any (λ other. is_twin other r) (db student_tree))
    (and_parts (not (list_any (λ other. is_twin other r) (db student_tree))) _ h).0

no_place_twin : (o : Open) (db : Trees) (r : Row) → Follows Unique OfPlaces o db r ≡ true
    → list_any (λ other. is_twin other r) (db assigned2_tree) ≡ false
unfolding everything
no_place_twin o db r h = not_true (list_any (λ other. is_twin other r) (db assigned2_tree))
    (and_parts (not (list_any (λ other. is_twin other r) (db assigned2_tree))) _ h).0

all_alone : (roll : RollTable) (o : Open) (db : Trees) → Keeps Unique (schema_with Second o) db
    → AllByRecursion (IsAlone (OfRoll roll) o db) (db (roll_tree roll))
all_alone Lecturers o db all = all.1.0
all_alone Projects o db all = all.1.1.0
all_alone Students o db all = all.1.1.1.0

-- of the rows of a roll that pass, each key is of one
pub roll_distinct : (db : Database) (roll : RollTable) (p : Row → Bool) → IsCurrentSchema db.schema → IsDatabase db
    → RowNumbersDiffer (db.trees (roll_tree roll))
    → IsDistinct equals (map row_key (filter p (db.trees (roll_tree roll))))
roll_distinct db roll p current sound apart =
    let w = own_is Second db.schema current in
    let table = db.trees (roll_tree roll) in
    kept_distinct HasTextKey is_twin twins p table apart
    (all-filter HasTextKey p table (key_texts db (OfRoll roll) (current_own db.schema current) sound))
    (all_weaker _ (λ r. list_any (λ other. is_twin other r) table ≡ false) (no_twin roll w.o db.trees) table
    (all_alone roll w.o db.trees (kept Second db sound Unique w)))

pub roll_keys_rise : (db : Database) (roll : RollTable) → IsCurrentSchema db.schema → IsDatabase db
    → RowNumbersDiffer (db.trees (roll_tree roll)) → Rise (map row_key (by_key (db.trees (roll_tree roll))))
roll_keys_rise db roll current sound apart =
    let table = db.trees (roll_tree roll) in
    rise_put_all row_key table [] (subst (λ l. IsDistinct equals (map row_key l)) (filter_all table ∙ sym (append-nil table))
    (roll_distinct db roll every current sound apart)) tt

-- who has a place in the second round has one row

one_of : (k : Key) (rows : List Row) → IsDistinct equals (map row_key rows)
    → length (filter (λ r. equals (row_key r) k) rows) ≤ 1
unfolding IsDistinct
one_of k [] differ = omega arith
one_of k (r ∷ rows) differ =
    (elim (equals (row_key r) k) as (λ b. equals (row_key r) k ≡ b
    → length (cond b (r ∷ filter (λ s. equals (row_key s) k) rows) (filter (λ s. equals (row_key s) k) rows)) ≤ 1) [
      | true ↦ λ e.
          let none : filter (λ s. equals (row_key s) k) rows ≡ [] = filter_none (λ s. equals (row_key s) k) rows
          (all_weaker (λ s. equals (row_key r) (row_key s) ≡ false) (λ s. equals (row_key s) k ≡ false)
          (λ s h. is_sym (row_key s) k ∙ subst (λ x. equals x (row_key s) ≡ false) (is_same (row_key r) k e) h) rows
          (all_unmap (λ x. equals (row_key r) x ≡ false) row_key rows differ.0)) in
          subst (λ l. length (r ∷ l) ≤ 1) (sym none) (omega arith)
      | false ↦ λ e. one_of k rows differ.1
    ]) refl

at_most_one : (table : List Row) → AllByRecursion HasTextKey table → IsDistinct equals (map row_key table) → (k : Key)
    → length (of_key k table) ≤ 1
at_most_one table texts differ k =
    let same : of_key k table ≡ filter (λ r. equals (row_key r) k) table =
    filter_alike (has_text 1 k) (λ r. equals (row_key r) k) table
    (all_weaker HasTextKey _ (λ r text. has_text_of 1 k r text.0 text.1 ∙ ap (λ v. equals (bytes v) k) (sym text.1)) table texts) in
    subst (λ l. length l ≤ 1) (sym same) (one_of k table differ)

pub one_place : (db : Database) → IsCurrentSchema db.schema → IsDatabase db → RowNumbersDiffer (db.trees assigned2_tree)
    → (k : Key) → length (of_key k (db.trees assigned2_tree)) ≤ 1
one_place db current sound apart =
    let table = db.trees assigned2_tree in
    let texts = key_texts db OfPlaces current sound in
    at_most_one table texts (distinct HasTextKey is_twin twins table apart texts
    (all_weaker _ (λ r. list_any (λ other. is_twin other r) table ≡ false)
    (no_place_twin (own_is Second db.schema current).o db.trees) table (followed db OfPlaces current sound Unique)))

-- and who is on a roll has one there
pub one_row : (db : Database) (roll : RollTable) → IsCurrentSchema db.schema → IsDatabase db
    → RowNumbersDiffer (db.trees (roll_tree roll)) → (k : Key) → length (of_key k (db.trees (roll_tree roll))) ≤ 1
one_row db roll current sound apart =
    let table = db.trees (roll_tree roll) in
    at_most_one table (key_texts db (OfRoll roll) (current_own db.schema current) sound)
    (subst (λ l. IsDistinct equals (map row_key l)) (filter_all table) (roll_distinct db roll every current sound apart))
