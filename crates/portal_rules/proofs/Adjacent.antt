-- Rows that rise by their keys, each beside the next.
use Rattle.portal_rules.proofs.Base.{◌≡◌, zero, suc, ◌+◌, ◌<◌, Bool, true, false, List, [], ◌∷◌, map, length, get_or}
use Rattle.portal_rules.proofs.Base.{refl, sym, ◌∙◌, ap, ℕ, arith, nat_cmp, is_lt, ordering_reverse, slice_cmp}
use Rattle.portal_rules.proofs.Base.{nat_list_cmp_total, length-map, get_or-map, Key, is_before, Rise, IsTrue, ◌↔◌}
use Rattle.portal_rules.proofs.Base.{IsAllAdjacentAnswer, false≢true}
use Rattle.std.proofs.Common.{Ordering, Less}
use Rattle.std.specs.List.Sorted.{IsSortedBy, IsStrictlySortedBy}
use Rattle.std.proofs.lemmas.Map.Keys.{sorted_from_all_adjacent}
use Rattle.spa_rows.proofs.Lists.{at_place}
use Rattle.portal_rules.proofs.AllLaws.{all_at, all_weaker}

strictly : (ks : List Key) → IsStrictlySortedBy (slice_cmp nat_cmp) ks → Rise ks
unfolding IsStrictlySortedBy
strictly [] s = tt
strictly (k ∷ ks) s = (
  all_weaker (λ l. slice_cmp nat_cmp k l ≡ Less) (λ l. is_before k l ≡ true) (λ l e. ap is_lt e) ks s.0,
  strictly ks s.1,
)

less : (o : Ordering) → true ≡ is_lt o → o ≡ Less
less o e = grind arith

-- of keys that rise each comes before those behind it
comes_before : (ks : List Key) → Rise ks → (i j : ℕ) → i < j → j < length ks
    → is_before (get_or ks i []) (get_or ks j []) ≡ true
comes_before [] up i j below low = absurd (omega (arith, low))
comes_before (k ∷ ks) up i zero below low = absurd (omega (arith, below))
comes_before (k ∷ ks) up zero (suc j) below low = all_at (λ l. is_before k l ≡ true) ks j [] up.0 (omega (arith, low))
comes_before (k ∷ ks) up (suc i) (suc j) below low = comes_before ks up.1 i j (omega (arith, below)) (omega (arith, low))

pub adjacent_rise : {X : Type 0} (key : X → Key) (rows : List X) (r : Bool)
    → IsAllAdjacentAnswer (λ x y b. b ≡ is_before (key x) (key y)) rows r → (IsTrue r ↔ Rise (map key rows))
adjacent_rise {X} key rows true all = (
  λ _. strictly (map key rows) (sorted_from_all_adjacent nat_list_cmp_total (map key rows) [] (λ k h.
      let low : k + 1 < length rows = omega (arith, length-map rows key) in
      let x = at_place rows k (omega arith) in
      less (slice_cmp nat_cmp (get_or (map key rows) k []) (get_or (map key rows) (k + 1) []))
      (rw (get_or-map key rows k x.0 [] (omega arith), get_or-map key rows (k + 1) x.0 [] low) (all k x.0 low)))),
  λ _. refl,
)
adjacent_rise {X} key rows false (k, low, apart) = (
  λ e. absurd (false≢true e),
  λ up.
      let x = at_place rows k (omega arith) in
      let above : is_before (get_or (map key rows) k []) (get_or (map key rows) (k + 1) []) ≡ true =
      comes_before (map key rows) up k (k + 1) (omega arith) (omega (arith, length-map rows key)) in
      let here : is_before (key (get_or rows k x.0)) (key (get_or rows (k + 1) x.0)) ≡ true =
      rw (get_or-map key rows k x.0 [] (omega arith), get_or-map key rows (k + 1) x.0 [] low) at above in
      absurd (false≢true (apart x.0 ∙ here)),
)

-- rows whose keys rise are sorted
pub rows_sorted : {X : Type 0} (key : X → Key) (rows : List X) → Rise (map key rows)
    → IsSortedBy (λ a b. is_lt (slice_cmp nat_cmp (key a) (key b))) rows
rows_sorted key rows up k d low high =
    let size = length-map rows key in
    let above = less (slice_cmp nat_cmp (get_or (map key rows) k []) (get_or (map key rows) (k + 1) []))
    (sym (comes_before (map key rows) up k (k + 1) (omega arith) (omega (arith, size, high)))) in
    let here = get_or-map key rows k d [] (omega arith) in
    let next = get_or-map key rows (k + 1) d [] high in
    ap is_lt (nat_list_cmp_total.antisymm (key (get_or rows (k + 1) d)) (key (get_or rows k d))
    ∙ ap ordering_reverse (rw (here, next) at above))
