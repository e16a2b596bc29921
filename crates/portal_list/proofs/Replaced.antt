-- One row is replaced where the keys rise.
use Rattle.portal_list.proofs.Base.{◌≡◌, ℕ, suc, zero, ◌<◌, true, false, cond, List, [], ◌∷◌, length, get_or, refl, sym}
use Rattle.portal_list.proofs.Base.{◌∙◌, ap, subst, arith, map, slice_set, ◌||◌, Some, list_any, AllByRecursion, Key}
use Rattle.portal_list.proofs.Base.{equals, is_before, Rise, Lecturer, with_ranking, is_same}
use Rattle.portal_list.proofs.Base.{not_before_itself, all_unmap, all_at, or_parts, false_from_ne_true}
-- a row without the key stays
pub use Rattle.portal_rules.proofs.Unseen.{ranking_other as ranking_elsewhere}

-- of two keys of which one comes before the other, only one is the key k
not_both : (a b k : Key) → is_before a b ≡ true → equals a k ≡ true → equals b k ≡ true → ⊥
not_both a b k low here there = not_before_itself k
    (subst (λ x. is_before k x ≡ true) (is_same b k there) (subst (λ x. is_before x b ≡ true) (is_same a k here) low))

module _ {X : Type 0} (key : X → Key) (k : Key) (put : X → X) where
  abbrev f : X → X
  f x = cond (equals (key x) k) (put x) x

  -- no row has the key
  pub unchanged : (xs : List X) → list_any (λ x. equals (key x) k) xs ≡ false → map f xs ≡ xs
  unchanged [] none = refl
  unchanged (x ∷ xs) none =
      let parts : (equals (key x) k ≡ false) × (list_any (λ y. equals (key y) k) xs ≡ false) =
      or_parts (equals (key x) k) (list_any (λ y. equals (key y) k) xs) none in
      λ i. cond (parts.0 i) (put x) x ∷ unchanged xs parts.1 i

  none_later : (x : X) (xs : List X) → equals (key x) k ≡ true
      → AllByRecursion (λ y. is_before (key x) (key y) ≡ true) xs → list_any (λ y. equals (key y) k) xs ≡ false
  none_later x [] here low = refl
  none_later x (y ∷ ys) here low =
      ap (λ b. b || list_any (λ z. equals (key z) k) ys)
      (false_from_ne_true (equals (key y) k) (λ there. not_both (key x) (key y) k low.0 here there))
      ∙ none_later x ys here low.1

  -- the row with the key is written, and the others stay
  pub replaced : (xs : List X) (i : ℕ) (e d : X) → Rise (map key xs) → i < length xs
      → equals (key (get_or xs i d)) k ≡ true → e ≡ put (get_or xs i d) → slice_set xs i e ≡ map f xs
  replaced [] i e d rise low here new = absurd (omega arith)
  replaced (x ∷ xs) zero e d rise low here new =
      λ j. (new ∙ λ i. cond (sym here i) (put x) x) j
      ∷ sym (unchanged xs (none_later x xs here (all_unmap (λ l. is_before (key x) l ≡ true) key xs rise.0))) j
  replaced (x ∷ xs) (suc i) e d rise low here new =
      let before : is_before (key x) (key (get_or xs i d))
      ≡ true = all_at (λ y. is_before (key x) (key y) ≡ true) xs i d (all_unmap (λ l. is_before (key x) l ≡ true) key xs rise.0)
      (omega arith) in
      let not_mine : equals (key x) k ≡ false =
      false_from_ne_true (equals (key x) k) (λ mine. not_both (key x) (key (get_or xs i d)) k before mine here) in
      λ j. cond (sym not_mine j) (put x) x ∷ replaced xs i e d rise.1 (omega arith) here new j

pub ranking_here : (k : Key) (list : List Key) (l : Lecturer) → equals l.row.key k ≡ true
    → record l { ranking = Some list } ≡ with_ranking k list l
ranking_here k list l e = sym (ap (λ b. cond b (record l { ranking = Some list }) l) e)
