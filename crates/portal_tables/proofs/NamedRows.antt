-- A key that is looked for among rows whose keys rise.
use Rattle.portal_tables.proofs.Base.{◌≡◌, ◌<◌, ◌||◌, ◌∷◌, arith, inl, inr, zero, suc, ℕ, true, false, List, [], map}
use Rattle.portal_tables.proofs.Base.{length, get_or, refl, sym, subst, ◌∙◌, ap, nat_cmp, slice_cmp, or-true}
use Rattle.portal_tables.proofs.Base.{cases_Bool, cases_lt, nat_list_cmp_total, tied_itself, exact_bytes}
use Rattle.portal_tables.proofs.Base.{searchable_from_sorted, rows_sorted, Result, Ok, Err, Row, Key, Rise, equals, has}
use Rattle.portal_tables.proofs.Base.{is_same, is_own, first_cell}
use Rattle.std.proofs.Common.{Equal}
use Rattle.std.specs.List.Sorted.{IsBinarySearchResult, IsSearchInRange}
use Rattle.std.specs.Prelude.{is_ok}

-- a key that is found at a place is there
there : (rows : List Row) (k : Key) (n : ℕ) (d : Row) → n < length rows
    → slice_cmp nat_cmp (first_cell (get_or rows n d)) k ≡ Equal → has (map first_cell rows) k ≡ true
there [] k n d low equal = absurd (omega (arith, low))
there (r ∷ rows) k zero d low equal = ap (λ b. b || has (map first_cell rows) k)
    (subst (λ x. equals k x ≡ true) (sym (exact_bytes (first_cell r) k equal)) (is_own k))
there (r ∷ rows) k (suc n) d low equal = ap (λ b. equals k (first_cell r) || b) (there rows k n d (omega (arith, low)) equal)
    ∙ or-true (equals k (first_cell r))

-- one that is at no place is not
nowhere : (rows : List Row) (k : Key)
    → ((i : ℕ) (d : Row) → i < length rows → slice_cmp nat_cmp (first_cell (get_or rows i d)) k ≡ Equal → ⊥)
    → has (map first_cell rows) k ≡ false
nowhere [] k other = refl
nowhere (r ∷ rows) k other = elim (cases_Bool (equals k (first_cell r))) [
  | inl same ↦ absurd (other 0 r (omega arith)
      (subst (λ x. slice_cmp nat_cmp x k ≡ Equal) (is_same k (first_cell r) same) (tied_itself nat_list_cmp_total k)))
  | inr apart ↦ ap (λ b. b || has (map first_cell rows) k) apart
      ∙ nowhere rows k (λ i d low equal. other (suc i) d (omega (arith, low)) equal)
]

-- the answer of a binary search is whether the key is there
pub known_by : (rows : List Row) (k : Key) (r : Result ℕ ℕ) → IsSearchInRange r (length rows)
    → IsBinarySearchResult (λ row. slice_cmp nat_cmp (first_cell row) k) rows r → Rise (map first_cell rows)
    → is_ok r ≡ has (map first_cell rows) k
known_by rows k (Ok n) low found up = sym (there rows k n [] low (found []))
known_by rows k (Err n) low parts up =
    let part = parts (searchable_from_sorted nat_list_cmp_total first_cell rows k (rows_sorted first_cell rows up)) in
    sym (nowhere rows k (λ i d within equal. elim (cases_lt i n) [
      | inl before ↦ let wrong = part.0 i d (omega arith) before in absurd (cc)
      | inr after ↦ let wrong = part.1 i d after within in absurd (cc)
    ]))
