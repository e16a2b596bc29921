-- Who has a list, and whether some list holds a project, of what queries of the lists show.
use Rattle.portal_views.proofs.Base.{◌∙◌, ◌&&◌, ◌||◌, ◌∷◌, ◌≡◌, AllByRecursion, Database, HasWholeLists, Int}
use Rattle.portal_views.proofs.Base.{IsDatabase, IsPlace, IsWhole, Key, List, ListsBy, Reading, Result, Round, Row, []}
use Rattle.portal_views.proofs.Base.{all-filter, all_map, all_of, all_permuted, all_weaker, and_comm, any_alike}
use Rattle.portal_views.proofs.Base.{any_map, ap, by_place, bytes, cases_Bool, Choices, chosen, column, columns}
use Rattle.portal_views.proofs.Base.{equals, filter, filter_alike, filtered_any, first_cell, has, has_number, has_text}
use Rattle.portal_views.proofs.Base.{has_text_of, inl, inr, is_chosen_shown, is_eq, is_none, is_sym, list_any}
use Rattle.portal_views.proofs.Base.{list_any-IsPermutation, map, named_by, not, of_key, permutes, place_key}
use Rattle.portal_views.proofs.Base.{placement_before, pos, reads_of, refl, row_key, student_tree, students_shown}
use Rattle.portal_views.proofs.Base.{subst, sym, tree_of, true, unlisted, value_cmp, ℤ, negsuc, State, is_empty}
use Rattle.portal_views.proofs.Base.{any_nowhere, choice_shown, CountUp, place_of, eq_self, none_of}
use Rattle.std.proofs.Math.Bool.{not-not}
use Rattle.sqlite_rules.proofs.ListLemmas.{some_has, some_from}
use Rattle.sqlite_trees.specs.Objects.{number_in}
use Rattle.portal_rules.proofs.Kept.{empty_map}
use Rattle.portal_rules.proofs.Members.{has_all}
use Rattle.portal_views.proofs.Choosers.{named_where, choices_formed, choices_parents, chooser, choosers_known}

-- somebody names the project

-- of rows that begin with these keys there is one, where there is a key
anyone : (ks : List Key) (rows : List Row) → AllByRecursion (λ k. has (map first_cell rows) k ≡ true) ks
    → list_any (λ c. has ks (first_cell c)) rows ≡ not (is_empty ks)
anyone [] rows all = any_nowhere rows
anyone (k ∷ ks) rows all =
    let found = some_has (λ c. equals k (first_cell c)) rows (sym (any_map (equals k) first_cell rows) ∙ all.0) in
    some_from (λ c. equals (first_cell c) k || has ks (first_cell c)) rows found.0 found.1
    (ap (λ b. b || has ks (first_cell found.0)) (is_sym (first_cell found.0) k ∙ found.2))

module _ (round : Round) (db : Database) (lists : HasWholeLists round db) (p : Key) (shown : List Row)
    (told : ListsBy (1 ∷ []) (has_text 3 p) (columns (1 ∷ [])) (db.trees (tree_of (Choices round))) shown) where
  pub some_chooser : not (is_empty shown) ≡ is_chosen_shown round db.trees p
  some_chooser =
      let roll : List Row = students_shown db.trees in
      ap not (sym (empty_map first_cell shown))
      ∙ sym (anyone (map first_cell shown) roll (choosers_known round db lists.tables p shown told))
      ∙ any_alike (λ c. has (map first_cell shown) (first_cell c)) (λ c. has (choice_shown round db.trees c) p) roll
      (all_of _ (λ c. chooser round db lists.tables p shown told (first_cell c)) roll)

-- who has a list

-- each list of the table is whole: its owner is on the roll, or it is empty
every_whole : (round : Round) (db : Database) → HasWholeLists round db → (k : Key)
    → IsWhole (of_key k (db.trees (tree_of (Choices round))))
every_whole round db lists k =
    let table = db.trees (tree_of (Choices round)) in
    let roll = db.trees student_tree in
    elim (cases_Bool (has (map row_key roll) k)) [
      | inl known ↦ has_all (λ k. IsWhole (of_key k table)) (map row_key roll) k
          (all_map (λ k. IsWhole (of_key k table)) row_key roll lists.whole) known
      | inr off ↦ subst IsWhole (sym (none_of (λ r. Unit {0}) roll k table
          (all_weaker _ _ (λ r there. (there, tt)) table (choices_parents round db lists.tables)) off)) tt
    ]

one_is : (place : ℤ) → number_in (Int place) ≡ 1 → is_eq (value_cmp (Int place) (Int (pos 1))) ≡ true
one_is (pos n) e = ap (λ m. is_eq (value_cmp (Int (pos m)) (Int (pos 1)))) e ∙ eq_self (Int (pos 1))
one_is (negsuc n) e = cc

is_first : (r : Row) → IsPlace r → place_of r ≡ 1 → has_number 2 1 r ≡ true
is_first r x e =
    ap (λ s. is_eq (value_cmp (column s 2) (Int (pos 1)))) x.is ∙ one_is x.place (sym (ap place_of x.is) ∙ e)

-- rows with the places 1, 2 and so on begin with the first, if there are any
begins : (rows : List Row) → AllByRecursion IsPlace rows → CountUp 1 (map place_of rows)
    → list_any (has_number 2 1) rows ≡ not (is_empty (map named_by rows))
begins [] shapes up = refl
begins (r ∷ rs) shapes up = ap (λ b. b || list_any (has_number 2 1) rs) (is_first r shapes.0 up.0)

module _ (round : Round) (db : Database) (lists : HasWholeLists round db) (shown : List Row)
    (told : ListsBy (1 ∷ []) (has_number 2 1) (columns (1 ∷ [])) (db.trees (tree_of (Choices round))) shown) where
  abbrev table : List Row
  table = db.trees (tree_of (Choices round))

  formed : AllByRecursion IsPlace table
  formed = choices_formed round db lists.tables

  alike : (k : Key) (r : Row) → IsPlace r
      → (has_number 2 1 r && equals k (row_key r)) ≡ (has_text 1 k r && has_number 2 1 r)
  alike k r x =
      let by : has_text 1 k r ≡ equals x.owner k = has_text_of 1 k r x.owner (ap (λ s. column s 1) x.is) in
      let key : equals k (row_key r) ≡ equals x.owner k = ap (λ s. equals k (bytes (column s 1))) x.is ∙ is_sym k x.owner in
      ap (λ b. has_number 2 1 r && b) (key ∙ sym by) ∙ and_comm (has_number 2 1 r) (has_text 1 k r)

  -- a key is shown where it has a list
  lister : (k : Key) → has (map first_cell shown) k ≡ not (is_empty (chosen table k))
  lister k =
      let mine : List Row = of_key k table in
      named_where (has_number 2 1) table shown told k
      ∙ any_alike _ _ table (all_weaker IsPlace _ (alike k) table formed)
      ∙ sym (filtered_any (has_number 2 1) (has_text 1 k) table)
      ∙ list_any-IsPermutation (has_number 2 1) mine (by_place mine) (permutes place_key mine)
      ∙ begins (by_place mine) (all_permuted IsPlace mine (by_place mine) (permutes place_key mine)
      (all-filter IsPlace (has_text 1 k) table formed)) (every_whole round db lists k)

  pub unlisted_are : (students : List Row)
      → map first_cell (filter (λ c. is_none (placement_before round c) && not (has (map first_cell shown) (first_cell c))) students)
      ≡ unlisted round db.trees students
  unlisted_are students =
      ap (map first_cell) (filter_alike (λ c. is_none (placement_before round c) && not (has (map first_cell shown) (first_cell c)))
      (λ c. is_none (placement_before round c) && is_empty (choice_shown round db.trees c)) students
      (all_of _ (λ c. ap (λ b. is_none (placement_before round c) && b)
      (ap not (lister (first_cell c)) ∙ not-not (is_empty (chosen table (first_cell c))))) students))

-- a read of sound tables
pub reads_whole : {round : Round} {On : State → Type 0} {V E : Type 0} {IsStores : E → Type 0} {Told : Database → Result V E
    → Type 0} {r : Result V E} {a b : State}
    → Reading round On IsDatabase IsStores Told r a b → Reading round On (HasWholeLists round) IsStores Told r a b
reads_whole h = reads_of (λ own. own) (λ own lists. lists.tables.sound) h
