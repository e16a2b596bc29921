-- Rows put by their keys are the one order of them in which the keys rise.
use Rattle.portal_tables.proofs.Base.{◌≡◌, ◌∷◌, ◌++◌, inl, inr, true, false, cond, List, [], map, refl, sym, ap, ap₂}
use Rattle.portal_tables.proofs.Base.{subst, ◌∙◌, append-nil, AllByRecursion, IsDistinct, IsPermutation}
use Rattle.portal_tables.proofs.Base.{IsPermutation-refl, IsPermutation-trans, IsPermutation-sym, IsPermutation-cons}
use Rattle.portal_tables.proofs.Base.{IsPermutation-middle, IsPermutation-map, IsPermutation-append_right}
use Rattle.portal_tables.proofs.Base.{IsDistinct-IsPermutation, Has, Key, equals, has, is_before, Rise, put, all_unmap}
use Rattle.portal_tables.proofs.Base.{all_weaker, map-map, some_from, is_own, none_is, rise_put, not_before_itself}
use Rattle.portal_tables.proofs.Base.{is_sym, before_trans, after_other, before_other}
pub use Rattle.sqlite_rules.proofs.ListLemmas.{all_has as at, all_from as all_has}
pub use Rattle.sqlite_trees.proofs.ListLemmas.{all-permutation as all_permuted, all_both as all_two}
use Rattle.portal_rules.specs.Words.{put_all}

pub rise_distinct : (ks : List Key) → Rise ks → IsDistinct equals ks
unfolding IsDistinct
rise_distinct [] h = tt
rise_distinct (k ∷ ks) h = (all_weaker _ _ (before_other k) ks h.0, rise_distinct ks h.1)

-- no key comes before one that stands in front of it
abbrev pub NeverFall : List Key → Type 0
NeverFall [] = Unit {0}
NeverFall (k ∷ ks) = AllByRecursion (λ l. is_before l k ≡ false) ks × NeverFall ks

-- distinct keys that never fall rise
pub rise_from_distinct : (ks : List Key) → NeverFall ks → IsDistinct equals ks → Rise ks
unfolding IsDistinct
rise_from_distinct [] h d = tt
rise_from_distinct (k ∷ ks) h d = (
  all_two _ _ (λ l. is_before k l ≡ true)
      (λ l up other. after_other l k up (is_sym l k ∙ other)) ks h.0 d.0,
  rise_from_distinct ks h.1 d.1,
)

pub has_permuted : {X : Type 0} (xs ys : List X) → IsPermutation xs ys → (x : X) → Has xs x → Has ys x
has_permuted xs ys same x h = at (λ z. Has ys z) xs x
    (all_permuted (λ z. Has ys z) ys xs (IsPermutation-sym xs ys same) (all_has (λ z. Has ys z) ys (λ z k. k))) h

-- a key that is a member passes the test of it
pub has_of : (ks : List Key) (k : Key) → Has ks k → has ks k ≡ true
has_of ks k h = some_from (equals k) ks k h (is_own k)

module _ {X : Type 0} (key : X → Key) where
  -- one more is put last
  pub put_all_more : (xs : List X) (x : X) (ys : List X) → put_all key (xs ++ x ∷ []) ys ≡ put key x (put_all key xs ys)
  put_all_more [] x ys = refl
  put_all_more (z ∷ zs) x ys = put_all_more zs x (put key z ys)

  -- putting rows loses none and makes none
  pub permutes_one : (x : X) (ys : List X) → IsPermutation (x ∷ ys) (put key x ys)
  permutes_one x [] = IsPermutation-refl (x ∷ [])
  permutes_one x (y ∷ ys) =
      elim (is_before (key x) (key y)) as (λ b. IsPermutation (x ∷ y ∷ ys) (cond b (x ∷ y ∷ ys) (y ∷ put key x ys))) [
        | true ↦ IsPermutation-refl (x ∷ y ∷ ys)
        | false ↦ IsPermutation-trans _ _ _ (IsPermutation-middle (x ∷ []) y ys) (IsPermutation-cons y _ _ (permutes_one x ys))
      ]

  pub permutes_more : (xs ys : List X) → IsPermutation (xs ++ ys) (put_all key xs ys)
  permutes_more [] ys = IsPermutation-refl ys
  permutes_more (x ∷ xs) ys =
      IsPermutation-trans _ _ _ (IsPermutation-sym _ _ (IsPermutation-middle xs x ys))
      (IsPermutation-trans _ _ _ (IsPermutation-append_right xs _ _ (permutes_one x ys)) (permutes_more xs (put key x ys)))

  pub permutes : (xs : List X) → IsPermutation xs (put_all key xs [])
  permutes xs = subst (λ l. IsPermutation l (put_all key xs [])) (append-nil xs) (permutes_more xs [])

  above : (k : Key) (xs : List X) (x : X) → AllByRecursion (λ l. is_before k l ≡ true) (map key xs) → Has xs x
      → is_before k (key x) ≡ true
  above k xs x all = at (λ z. is_before k (key z) ≡ true) xs x (all_unmap (λ l. is_before k l ≡ true) key xs all)

  -- two lists with rising keys that have the same members are one
  pub one_order : (xs ys : List X) → Rise (map key xs) → Rise (map key ys) → ((x : X) → Has xs x → Has ys x)
      → ((x : X) → Has ys x → Has xs x) → xs ≡ ys
  one_order [] [] p q to back = refl
  one_order [] (y ∷ ys) p q to back = absurd (back y (inl refl))
  one_order (x ∷ xs) [] p q to back = absurd (to x (inl refl))
  one_order (x ∷ xs) (y ∷ ys) p q to back =
      let first : x ≡ y = elim (to x (inl refl)) [
        | inl e ↦ e
        | inr low ↦ elim (back y (inl refl)) [
          | inl e ↦ sym e
          | inr high ↦ absurd (not_before_itself (key x)
              (before_trans (key x) (key y) (key x) (above (key x) xs y p.0 high) (above (key y) ys x q.0 low)))
        ]
      ] in
      ap₂ (λ a b. a ∷ b) first (one_order xs ys p.1 q.1
      (λ z h. elim (to z (inr h)) [
        | inl e ↦ absurd (not_before_itself (key x)
            (subst (λ w. is_before (key x) (key w) ≡ true) (e ∙ sym first) (above (key x) xs z p.0 h)))
        | inr on ↦ on
      ])
      (λ z h. elim (back z (inr h)) [
        | inl e ↦ absurd (not_before_itself (key y) (subst (λ w. is_before (key y) (key w) ≡ true) (e ∙ first) (above (key y) ys z q.0 h)))
        | inr on ↦ on
      ]))

  -- two orders of the same rows, both rising, are one
  pub one_rise : (xs ys : List X) → IsPermutation xs ys → Rise (map key xs) → Rise (map key ys) → xs ≡ ys
  one_rise xs ys same p q = one_order xs ys p q (has_permuted xs ys same) (has_permuted ys xs (IsPermutation-sym xs ys same))

  -- where the rows rise once put, no key is of two rows
  pub distinct_permuted : (xs ys : List X) → IsPermutation xs ys → IsDistinct equals (map key xs)
      → IsDistinct equals (map key ys)
  distinct_permuted xs ys same d = IsDistinct-IsPermutation equals is_sym (map key xs) (map key ys) (IsPermutation-map key xs ys same) d

  pub distinct_if_rise : (xs : List X) → Rise (map key (put_all key xs [])) → IsDistinct equals (map key xs)
  distinct_if_rise xs up = distinct_permuted (put_all key xs []) xs (IsPermutation-sym _ _ (permutes xs)) (rise_distinct _ up)

  rise_one : (x : X) (ys : List X) → Rise (map key ys) → AllByRecursion (λ l. equals (key x) l ≡ false) (map key ys)
      → Rise (map key (put key x ys))
  rise_one x ys up d =
      rise_put key x ys up (none_is (key x) (map key ys)
      (all_weaker (λ l. equals (key x) l ≡ false) (λ l. equals l (key x) ≡ false) (λ l other. is_sym l (key x) ∙ other) (map key ys) d))

  behind : (k : Key) (us ys : List X) → AllByRecursion (λ l. equals k l ≡ false) (map key (us ++ ys))
      → AllByRecursion (λ l. equals k l ≡ false) (map key ys)
  behind k [] ys h = h
  behind k (u ∷ us) ys h = behind k us ys h.1

  apart_from : (x : X) (us ys : List X) → IsDistinct equals (map key (x ∷ (us ++ ys)))
      → AllByRecursion (λ l. equals (key x) l ≡ false) (map key ys)
  unfolding IsDistinct
  apart_from x us ys h = behind (key x) us ys h.0

  -- rows with distinct keys rise once they are put
  pub rise_put_all : (xs ys : List X) → IsDistinct equals (map key (xs ++ ys)) → Rise (map key ys)
      → Rise (map key (put_all key xs ys))
  rise_put_all [] ys d up = up
  rise_put_all (x ∷ xs) ys d up =
      let front : IsDistinct equals (map key (x ∷ (xs ++ ys))) = d in
      let swapped : IsDistinct equals (map key (xs ++ put key x ys)) =
      distinct_permuted (x ∷ (xs ++ ys)) (xs ++ put key x ys)
      (IsPermutation-trans _ _ _ (IsPermutation-sym _ _ (IsPermutation-middle xs x ys))
      (IsPermutation-append_right xs _ _ (permutes_one x ys))) front in
      rise_put_all xs (put key x ys) swapped (rise_one x ys up (apart_from x xs ys front))

  -- the rows with rising keys, in whatever order they were
  pub in_order : (xs ys : List X) → IsPermutation xs ys → Rise (map key ys) → ys ≡ put_all key xs []
  in_order xs ys same up =
      let d : IsDistinct equals (map key (xs ++ [])) =
      subst (λ l. IsDistinct equals (map key l)) (sym (append-nil xs))
      (distinct_permuted ys xs (IsPermutation-sym xs ys same) (rise_distinct (map key ys) up)) in
      one_rise ys (put_all key xs []) (IsPermutation-trans _ _ _ (IsPermutation-sym xs ys same) (permutes xs)) up (rise_put_all xs [] d tt)

  -- the same rows, in two orders, are one list once they are put, if that rises
  pub put_same : (xs ys : List X) → IsPermutation xs ys → Rise (map key (put_all key xs []))
      → put_all key ys [] ≡ put_all key xs []
  put_same xs ys same up = sym (in_order ys (put_all key xs []) (IsPermutation-trans _ _ _ (IsPermutation-sym xs ys same) (permutes xs)) up)

  -- rows in an order in which no key falls, where the same rows rise once they are put
  pub sorted_order : (xs ys : List X) → IsPermutation xs ys → NeverFall (map key ys)
      → Rise (map key (put_all key xs [])) → ys ≡ put_all key xs []
  sorted_order xs ys same sorted up = in_order xs ys same
      (rise_from_distinct (map key ys) sorted (distinct_permuted xs ys same (distinct_if_rise xs up)))

  -- new rows, among those that were there
  pub more_rows : (xs ys zs : List X) → IsPermutation (xs ++ ys) zs → Rise (map key (put_all key xs ys))
      → put_all key zs [] ≡ put_all key xs ys
  more_rows xs ys zs same up = sym (in_order zs (put_all key xs ys)
      (IsPermutation-trans _ _ _ (IsPermutation-sym _ _ same) (permutes_more xs ys)) up)

  pub more_put : (xs ys zs : List X) → IsPermutation (xs ++ ys) zs → Rise (map key (put_all key xs (put_all key ys [])))
      → put_all key zs [] ≡ put_all key xs (put_all key ys [])
  more_put xs ys zs same up = more_rows xs (put_all key ys []) zs
      (IsPermutation-trans _ _ _ (IsPermutation-append_right xs _ _ (IsPermutation-sym _ _ (permutes ys))) same) up

-- a change of each row that keeps its key
module _ {X Y : Type 0} (key : X → Key) (there : Y → Key) (f : X → Y) (alike : (x : X) → there (f x) ≡ key x) where
  put_map : (x : X) (ys : List X) → put there (f x) (map f ys) ≡ map f (put key x ys)
  put_map x [] = refl
  put_map x (y ∷ ys) =
      ap₂ (λ a b. cond (is_before a b) (f x ∷ f y ∷ map f ys) (f y ∷ put there (f x) (map f ys))) (alike x) (alike y)
      ∙ elim (is_before (key x) (key y)) as (λ b. cond b (f x ∷ f y ∷ map f ys) (f y ∷ put there (f x) (map f ys))
      ≡ map f (cond b (x ∷ y ∷ ys) (y ∷ put key x ys)))
      [ true ↦ refl | false ↦ ap (λ l. f y ∷ l) (put_map x ys) ]

  pub put_all_map : (xs ys : List X) → put_all there (map f xs) (map f ys) ≡ map f (put_all key xs ys)
  put_all_map [] ys = refl
  put_all_map (x ∷ xs) ys = ap (put_all there (map f xs)) (put_map x ys) ∙ put_all_map xs (put key x ys)

-- changes that are alike on each row
pub map_alike : {X Y : Type 0} (f g : X → Y) (xs : List X) → ((x : X) → f x ≡ g x) → map f xs ≡ map g xs
map_alike f g xs h = λ i. map (λ x. h x i) xs

pub map_alike_on : {X Y : Type 0} (f g : X → Y) (xs : List X) → ((x : X) → Has xs x → f x ≡ g x) → map f xs ≡ map g xs
map_alike_on f g [] h = refl
map_alike_on f g (x ∷ xs) h = ap₂ (λ a b. a ∷ b) (h x (inl refl)) (map_alike_on f g xs (λ y k. h y (inr k)))

pub map_twice : {X Y Z : Type 0} (f : Y → Z) (g : X → Y) (xs : List X) → map (λ x. f (g x)) xs ≡ map f (map g xs)
map_twice f g xs = sym (map-map f g xs)
