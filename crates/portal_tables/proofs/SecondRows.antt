-- What a row of the second round tells of a lecturer or a student, found by the key.
use Rattle.portal_tables.proofs.Base.{◌≡◌, ◌≤◌, ◌&&◌, ◌∷◌, arith, true, not, Option, option_map, IfSome, List, [], map}
use Rattle.portal_tables.proofs.Base.{filter, length, refl, sym, ap, subst, subst₂, ◌∙◌, AllByRecursion, list_any}
use Rattle.portal_tables.proofs.Base.{list_any-IsPermutation, IsPermutation, IsPermutation-map, IsPermutation-sym}
use Rattle.portal_tables.proofs.Base.{length_permutation, length-map, and-true, map-map, Row, column, bytes, Database}
use Rattle.portal_tables.proofs.Base.{IsDatabase, Key, equals, is_sym, has, any_map, filtered_any, all_map, all_weaker}
use Rattle.portal_tables.proofs.Base.{IsCurrentSchema, OfRanked, OfPlaces, ranked2_tree, assigned2_tree, ListsBy}
use Rattle.portal_tables.proofs.Base.{columns, has_text, of_key, row_key, as_list, shown_name, is_key, placed_project}
use Rattle.portal_tables.proofs.Base.{second_placement, is_empty}
use Rattle.portal_tables.proofs.Lists.{any_alike}
use Rattle.portal_tables.proofs.Listed.{IsText, permuted}
use Rattle.portal_tables.proofs.OneFound.{first_of, find_is, first_back, only_one, filter_alike}
use Rattle.portal_tables.proofs.Shapes.{has_text_of}
use Rattle.portal_tables.proofs.Sorted.{all_permuted}
use Rattle.portal_tables.proofs.Texts.{key_texts}

-- a row with a text for its key has this key or not
key_test : (k : Key) (r : Row) → IsText (column r 1) → has_text 1 k r ≡ equals (row_key r) k
key_test k r text = has_text_of 1 k r text.0 text.1 ∙ ap (λ v. equals (bytes v) k) (sym text.1)

-- whether a lecturer has a ranking in the second round

any_there : (rows : List Row) → not (is_empty rows) ≡ list_any (λ _. true) rows
any_there [] = refl
any_there (r ∷ rows) = refl

pub ranked_found : (db : Database) → IsCurrentSchema db.schema → IsDatabase db → (k : Key) (shown : List Row)
    → ListsBy (1 ∷ []) (has_text 1 k) (columns (1 ∷ [])) (db.trees ranked2_tree) shown
    → not (is_empty shown) ≡ has (map row_key (db.trees ranked2_tree)) k
ranked_found db own sound k shown lists =
    let table = db.trees ranked2_tree in
    any_there shown
    ∙ sym (list_any-IsPermutation (λ _. true) (map (columns (1 ∷ [])) (filter (has_text 1 k) table)) shown
    (permuted _ _ _ table shown lists))
    ∙ any_map (λ _. true) (columns (1 ∷ [])) (filter (has_text 1 k) table)
    ∙ filtered_any (λ _. true) (has_text 1 k) table
    ∙ any_alike (λ r. has_text 1 k r && true) (λ r. equals k (row_key r)) table
    (all_weaker (λ r. IsText (column r 1)) _ (λ r text. and-true (has_text 1 k r) ∙ key_test k r text ∙ is_sym (row_key r) k) table
    (key_texts db OfRanked own sound))
    ∙ sym (any_map (equals k) row_key table)

-- the place of a student in the second round

first_map : {X Y : Type 0} (f : X → Y) (xs : List X) → first_of (map f xs) ≡ option_map f (first_of xs)
first_map f [] = refl
first_map f (x ∷ xs) = refl

alone : (P : Key → Type 0) (rows : List Row) → length rows ≤ 1 → IfSome (option_map placed_project (first_of rows)) P
    → AllByRecursion (λ a. P (placed_project a)) rows
alone P [] few h = tt
alone P (a ∷ []) few h = (h, tt)
alone P (a ∷ b ∷ rows) few h = absurd (omega (arith, few))

module _ (db : Database) (own : IsCurrentSchema db.schema) (sound : IsDatabase db) (k : Key) (shown : List Row)
    (lists : ListsBy (1 ∷ []) (has_text 1 k) (columns (1 ∷ 2 ∷ [])) (db.trees assigned2_tree) shown) where
  abbrev mine : List Row
  mine = of_key k (db.trees assigned2_tree)

  same : IsPermutation (map (columns (1 ∷ 2 ∷ [])) mine) shown
  same = permuted _ _ _ (db.trees assigned2_tree) shown lists

  first_mine : option_map placed_project (first_of mine) ≡ second_placement db.trees k
  first_mine =
      let table = db.trees assigned2_tree in
      ap (λ rows. option_map placed_project (first_of rows))
      (filter_alike (has_text 1 k) (λ a. equals (row_key a) k) table
      (all_weaker (λ r. IsText (column r 1)) _ (key_test k) table (key_texts db OfPlaces own sound)))
      ∙ ap (option_map placed_project) (sym (find_is (λ a. equals (row_key a) k) table))

  pub place_found : (o : Option Key) → as_list o ≡ map shown_name shown → o ≡ second_placement db.trees k
  place_found o only =
      let named : IsPermutation (as_list o) (map placed_project mine) =
      IsPermutation-sym _ _ (subst₂ IsPermutation (map-map shown_name (columns (1 ∷ 2 ∷ [])) mine) (sym only)
      (IsPermutation-map shown_name _ shown same)) in
      sym (first_back o) ∙ ap first_of (sym (only_one o (map placed_project mine) named)) ∙ first_map placed_project mine ∙ first_mine

  -- where there is no more than one row, and it names a key
  pub place_fine : IfSome (second_placement db.trees k) (λ p. is_key p ≡ true) → length mine ≤ 1
      → (length shown ≤ 1) × AllByRecursion (λ c. is_key (shown_name c) ≡ true) shown
  place_fine key once = (
    subst (λ n. n ≤ 1) (sym (length_permutation _ shown same ∙ length-map mine (columns (1 ∷ 2 ∷ [])))) once,
    all_permuted (λ c. is_key (shown_name c) ≡ true) _ shown same
        (all_map (λ c. is_key (shown_name c) ≡ true) (columns (1 ∷ 2 ∷ [])) mine
        (alone (λ p. is_key p ≡ true) mine once (subst (λ o. IfSome o (λ p. is_key p ≡ true)) (sym first_mine) key))),
  )
