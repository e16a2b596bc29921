-- Who names a project, of the keys that a query of the lists shows.
use Rattle.portal_views.proofs.Base.{◌≡◌, ◌&&◌, ◌∷◌, permuted, any_alike, has_round, OnRoll, IsPlace}
use Rattle.portal_views.proofs.Base.{has_text_of, permutes, all_permuted, Bool, true, List, [], map, filter, sym}
use Rattle.portal_views.proofs.Base.{ap, ap₂, ◌∙◌, AllByRecursion, list_any, and_comm, list_any-IsPermutation}
use Rattle.portal_views.proofs.Base.{Row, column, bytes, Database, all-filter, Key, equals, has, all_weaker, all_map}
use Rattle.portal_views.proofs.Base.{any_map, filtered_any, is_sym, student_tree, Round, First, Second, Choices}
use Rattle.portal_views.proofs.Base.{tree_of, RowNumbersDiffer, ListsBy, columns, has_text, of_key, named_by}
use Rattle.portal_views.proofs.Base.{place_key, by_place, chosen, row_key, students_shown, first_cell, HasTables}
use Rattle.portal_views.proofs.Base.{place_parents, place_rows_formed}
use Rattle.portal_views.proofs.Owners.{shown_there}

-- a key is shown of the rows that pass where one of them is its own
pub named_where : (t : Row → Bool) (table shown : List Row) → ListsBy (1 ∷ []) t (columns (1 ∷ [])) table shown
    → (k : Key) → has (map first_cell shown) k ≡ list_any (λ r. t r && equals k (row_key r)) table
named_where t table shown lists k =
    let f : Row → Row = columns (1 ∷ []) in
    any_map (equals k) first_cell shown
    ∙ sym (list_any-IsPermutation (λ c. equals k (first_cell c)) (map f (filter t table)) shown (permuted _ _ _ table shown lists))
    ∙ any_map (λ c. equals k (first_cell c)) f (filter t table)
    ∙ filtered_any (λ r. equals k (row_key r)) t table

-- the rows of a round's choices, in tables that are the portal's own
module _ (round : Round) (db : Database) (tables : HasTables db) where
  pub choices_apart : RowNumbersDiffer (db.trees (tree_of (Choices round)))
  choices_apart = elim round as (λ (r : Round). RowNumbersDiffer
      (db.trees (tree_of (Choices r)))) [ First ↦ tables.apart.1.1.1.1.0 | Second ↦ tables.apart.1.1.1.1.1.1.1.0 ]

  pub choices_formed : AllByRecursion IsPlace (db.trees (tree_of (Choices round)))
  choices_formed = place_rows_formed db (Choices round) (has_round round db.schema tables.current) tables.sound choices_apart

  -- whose choices they are is on the roll
  pub choices_parents : AllByRecursion (λ r. OnRoll (db.trees student_tree) (row_key r)) (db.trees (tree_of (Choices round)))
  choices_parents =
      all_weaker _ _ (λ r both. both.0) (db.trees (tree_of (Choices round)))
      (place_parents db (Choices round) (has_round round db.schema tables.current) tables.sound choices_apart)

-- a student is among those who name the project where the student's list names it
module _ (round : Round) (db : Database) (tables : HasTables db) (p : Key) (shown : List Row)
    (lists : ListsBy (1 ∷ []) (has_text 3 p) (columns (1 ∷ [])) (db.trees (tree_of (Choices round))) shown) where
  abbrev table : List Row
  table = db.trees (tree_of (Choices round))

  alike : (k : Key) (r : Row) → IsPlace r
      → (has_text 3 p r && equals k (row_key r)) ≡ (has_text 1 k r && equals p (named_by r))
  alike k r x =
      let of : has_text 3 p r ≡ equals x.item p = has_text_of 3 p r x.item (ap (λ s. column s 3) x.is) in
      let by : has_text 1 k r ≡ equals x.owner k = has_text_of 1 k r x.owner (ap (λ s. column s 1) x.is) in
      let key : equals k (row_key r) ≡ equals x.owner k = ap (λ s. equals k (bytes (column s 1))) x.is ∙ is_sym k x.owner in
      let name : equals p (named_by r) ≡ equals x.item p = ap (λ s. equals p (bytes (column s 3))) x.is ∙ is_sym p x.item in
      ap₂ (λ a b. a && b) of key ∙ and_comm (equals x.item p) (equals x.owner k) ∙ sym (ap₂ (λ a b. a && b) by name)

  pub chooser : (k : Key) → has (map first_cell shown) k ≡ has (chosen table k) p
  chooser k =
      let right : has (chosen table k) p ≡ list_any (λ r. has_text 1 k r && equals p (named_by r)) table =
      any_map (equals p) named_by (by_place (of_key k table))
      ∙ sym (list_any-IsPermutation (λ r. equals p (named_by r)) (of_key k table) (by_place (of_key k table))
      (permutes place_key (of_key k table)))
      ∙ filtered_any (λ r. equals p (named_by r)) (has_text 1 k) table in
      named_where (has_text 3 p) table shown lists k
      ∙ any_alike _ _ table (all_weaker IsPlace _ (alike k) table (choices_formed round db tables)) ∙ sym right

  -- who names the project is on the roll
  pub choosers_known : AllByRecursion (λ k. has (map first_cell (students_shown db.trees)) k ≡ true) (map first_cell shown)
  choosers_known =
      let Known : Key → Type 0 = λ k. has (map first_cell (students_shown db.trees)) k ≡ true in
      let rows : AllByRecursion (λ r. Known (row_key r)) table =
      all_weaker _ (λ r. Known (row_key r)) (λ r known. shown_there (2 ∷ 3 ∷ 4 ∷ []) (db.trees student_tree) (row_key r) known) table
      (choices_parents round db tables) in
      let mapped : AllByRecursion (λ c. Known (first_cell c)) (map (columns (1 ∷ [])) (filter (has_text 3 p) table)) =
      all_map (λ c. Known (first_cell c)) (columns (1 ∷ [])) (filter (has_text 3 p) table)
      (all-filter (λ r. Known (row_key r)) (has_text 3 p) table rows) in
      all_map Known first_cell shown (all_permuted (λ c. Known (first_cell c)) _ shown (permuted _ _ _ table shown lists) mapped)
