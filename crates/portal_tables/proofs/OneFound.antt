-- The only row that a query shows is what a search of the roll finds.
use Rattle.portal_tables.proofs.Base.{◌≡◌, ◌∷◌, ℕ, Bool, true, false, cond, Option, Some, None, option_map, List, []}
use Rattle.portal_tables.proofs.Base.{map, filter, refl, sym, ap, subst, subst₂, ◌∙◌, AllByRecursion, find}
use Rattle.portal_tables.proofs.Base.{IsPermutation, IsPermutation-map, IsPermutation-sym, IsPermutation-trans}
use Rattle.portal_tables.proofs.Base.{length_permutation, nil_from_length, Row, one_permutation, IsPermutation-filter}
use Rattle.portal_tables.proofs.Base.{filter-map, ListsBy, row_key, by_key, as_list}
pub use Rattle.portal_tables.proofs.Lists.{filter_alike}
use Rattle.portal_tables.proofs.Listed.{permuted}
use Rattle.portal_tables.proofs.Sorted.{permutes, map_alike, map_twice}

-- the first that passes is the only one that passes

abbrev pub first_of : {X : Type 0} → List X → Option X
first_of [] = None
first_of (x ∷ xs) = Some x

pub find_is : {X : Type 0} (p : X → Bool) (xs : List X) → find p xs ≡ first_of (filter p xs)
find_is p [] = refl
find_is p (x ∷ xs) = elim (p x) as (λ b. cond b (Some x) (find p xs)
    ≡ first_of (cond b (x ∷ filter p xs) (filter p xs))) [ true ↦ refl | false ↦ find_is p xs ]

pub first_back : {X : Type 0} (o : Option X) → first_of (as_list o) ≡ o
first_back None = refl
first_back (Some x) = refl

pub only_one : {X : Type 0} (o : Option X) (xs : List X) → IsPermutation (as_list o) xs → xs ≡ as_list o
only_one None xs same = nil_from_length xs (length_permutation [] xs same)
only_one (Some x) xs same = one_permutation x xs same

listed_map : {X Y : Type 0} (f : X → Y) (o : Option X) → map f (as_list o) ≡ as_list (option_map f o)
listed_map f None = refl
listed_map f (Some x) = refl

-- the row that a query by code shows is what a search of the roll finds
pub found : {X : Type 0} (keys : List ℕ) (p : Row → Bool) (show : Row → Row) (of : Row → X) (from : Row → X) (test : X → Bool)
    → ((r : Row) → from (show r) ≡ of r) → (table shown : List Row)
    → AllByRecursion (λ r. p r ≡ test (of r)) table → ListsBy keys p show table shown → (o : Option Row) → as_list o ≡ shown
    → option_map from o ≡ find test (map of (by_key table))
found keys p show of from test alike table shown agree lists o is =
    let one : IsPermutation (map from (map show (filter p table))) (map from shown) =
    IsPermutation-map from _ shown (permuted keys p show table shown lists) in
    let two : map from (map show (filter p table)) ≡ map of (filter (λ r. test (of r)) table) =
    sym (map_twice from show (filter p table)) ∙ map_alike (λ r. from (show r)) of (filter p table) alike
    ∙ ap (map of) (filter_alike p (λ r. test (of r)) table agree) in
    let three : IsPermutation (map of (filter (λ r. test (of r)) table)) (map of (filter (λ r. test (of r)) (by_key table))) =
    IsPermutation-map of _ _ (IsPermutation-filter (λ r. test (of r)) table (by_key table) (permutes row_key table)) in
    let four : IsPermutation (map from shown) (filter test (map of (by_key table))) =
    IsPermutation-trans _ _ _ (IsPermutation-sym _ _ one)
    (subst₂ IsPermutation (sym two) (sym (filter-map test of (by_key table))) three) in
    let five : IsPermutation (as_list (option_map from o)) (filter test (map of (by_key table))) =
    subst (λ l. IsPermutation l (filter test (map of (by_key table)))) (ap (map from) (sym is) ∙ listed_map from o) four in
    sym (find_is test (map of (by_key table)) ∙ ap first_of (only_one (option_map from o) _ five) ∙ first_back (option_map from o))
