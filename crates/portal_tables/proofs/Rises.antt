-- Rows whose numbers rise in some order have numbers of their own.
use Rattle.portal_tables.proofs.Base.{◌≡◌, ◌∷◌, ℤ, List, [], map, filter, Bool, true, false, Option, Some, None}
use Rattle.portal_tables.proofs.Base.{int_cmp, refl, sym, ap, subst, subst₂, ◌∙◌, Less, is_eq, AllByRecursion}
use Rattle.portal_tables.proofs.Base.{all_unmap, all_weaker, IsDistinct, IsPermutation, IsPermutation-map}
use Rattle.portal_tables.proofs.Base.{IsPermutation-sym, IsDistinct-IsPermutation, and_parts, Value, Int, Row, column}
use Rattle.portal_tables.proofs.Base.{value_cmp, id_in, value_cmp_total, value_cmp-Int, RowNumbersDiffer, ListsBy}
use Rattle.portal_tables.proofs.Base.{every, columns, is_above, rises, map-map, less_of}
use Rattle.portal_tables.proofs.Lists.{eq_flips, filter_all}
use Rattle.portal_tables.proofs.Sorted.{all_permuted}

abbrev same : Value → Value → Bool
same a b = is_eq (value_cmp a b)

whole : (last : Option ℤ) (v : Value) → is_above last v ≡ true → v ≡ Int (id_in v)
whole None (Int n) h = refl
whole (Some m) (Int n) h = refl
whole _ _ h = absurd cc

after : (m : ℤ) (v : Value) → is_above (Some m) v ≡ true → value_cmp (Int m) v ≡ Less
after m (Int n) h = value_cmp-Int m n ∙ less_of (int_cmp m n) h
after m _ h = absurd cc

abbrev ids : List Row → List Value
ids rows = map (λ r. column r 0) rows

above_all : (m : ℤ) (rows : List Row) → rises (Some m) rows ≡ true
    → AllByRecursion (λ v. value_cmp (Int m) v ≡ Less) (ids rows)
above_all m [] h = tt
above_all m (r ∷ rs) h =
    let p = and_parts _ _ h in
    let is = whole (Some m) (column r 0) p.0 in
    let one = after m (column r 0) p.0 in (
      one,
      all_weaker _ (λ v. value_cmp (Int m) v ≡ Less) (λ v. value_cmp_total.trans (Int m) (column r 0) v one) (ids rs)
          (subst (λ v. AllByRecursion (λ w. value_cmp v w ≡ Less) (ids rs)) (sym is) (above_all (id_in (column r 0)) rs p.1)),
    )

distinct : (last : Option ℤ) (rows : List Row) → rises last rows ≡ true → IsDistinct same (ids rows)
unfolding IsDistinct
distinct last [] h = tt
distinct last (r ∷ rs) h =
    let p = and_parts _ _ h in (
      all_weaker _ (λ v. same (column r 0) v ≡ false) (λ v less. ap is_eq less) (ids rs)
          (subst (λ v. AllByRecursion (λ w. value_cmp v w ≡ Less) (ids rs)) (sym (whole last (column r 0) p.0))
          (above_all (id_in (column r 0)) rs p.1)),
      distinct (Some (id_in (column r 0))) rs p.1,
    )

abbrev IsWhole : Value → Type 0
IsWhole v = v ≡ Int (id_in v)

all_whole : (last : Option ℤ) (rows : List Row) → rises last rows ≡ true → AllByRecursion IsWhole (ids rows)
all_whole last [] h = tt
all_whole last (r ∷ rs) h = let p = and_parts _ _ h in (whole last (column r 0) p.0, all_whole (Some (id_in (column r 0))) rs p.1)

build : (rows : List Row) → IsDistinct same (ids rows) → AllByRecursion IsWhole (ids rows) → RowNumbersDiffer rows
unfolding IsDistinct
build [] d w = tt
build (r ∷ rs) d w = (w.0, all_unmap (λ v. same (column r 0) v ≡ false) (λ s. column s 0) rs d.0, build rs d.1 w.1)

pub apart_of : (table shown : List Row) → ListsBy (0 ∷ []) every (columns (0 ∷ [])) table shown
    → rises None shown ≡ true → RowNumbersDiffer table
apart_of table shown h up =
    let first = λ (k : Row × Row). column k.1 0 in
    let there : map first (map (λ r. (columns (0 ∷ []) r, columns (0 ∷ []) r)) (filter every table)) ≡ ids table =
    map-map first (λ r. (columns (0 ∷ []) r, columns (0 ∷ []) r)) (filter every table) ∙ ap ids (filter_all table) in
    let here : map first h.keyed ≡ ids shown = sym (ap ids h.is ∙ map-map (λ r. column r 0) (λ (k : Row × Row). k.1) h.keyed) in
    let moved : IsPermutation (ids table) (ids shown) = subst₂ IsPermutation there here (IsPermutation-map first _ h.keyed h.same) in
    build table (IsDistinct-IsPermutation same eq_flips (ids shown) (ids table) (IsPermutation-sym (ids table) (ids shown) moved)
    (distinct None shown up))
    (all_permuted IsWhole (ids shown) (ids table) (IsPermutation-sym (ids table) (ids shown) moved) (all_whole None shown up))
