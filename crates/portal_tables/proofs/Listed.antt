-- What a query of one table shows, and the one order of its rows.
use Rattle.portal_tables.proofs.Base.{◌≡◌, ◌+◌, ◌<◌, ◌≤◌, ◌∷◌, arith, inl, inr, ℕ, pos, Bool, true, false, List, []}
use Rattle.portal_tables.proofs.Base.{length, map, filter, refl, sym, ap, subst, subst₂, ◌∙◌, AllByRecursion}
use Rattle.portal_tables.proofs.Base.{IsPermutation, IsSorted, nil_from_length, length-map, IsPermutation-map}
use Rattle.portal_tables.proofs.Base.{IsPermutation-sym, length_permutation, Ordering, Less, Equal, Greater, is_lt}
use Rattle.portal_tables.proofs.Base.{is_gt, nat_cmp, ordering_then, ordering_reverse, lt→ltb, nat_cmp_is, int_cmp_is}
use Rattle.portal_tables.proofs.Base.{cases_lt, slice_cmp, Value, Int, Words, Row, column, bytes, value_cmp, number_in}
use Rattle.portal_tables.proofs.Base.{IsAscending, map-map, all_of, value_cmp_total, value_cmp-Int, value_cmp-Text}
use Rattle.portal_tables.proofs.Base.{then-Equal, ascending_from_sorted, IsSorted-map, Key, is_before, Rise, all_weaker}
use Rattle.portal_tables.proofs.Base.{all_map, all_unmap, ListsBy, every, columns, has_text, row_key, by_key, of_key}
use Rattle.portal_tables.proofs.Base.{place_of, place_key, by_place, named_by, chosen, CountUp, IsWhole, first_cell}
use Rattle.portal_tables.proofs.Base.{shown_rank, shown_name, ◌<ℤ◌}
use Rattle.std.specs.Ordering.{int_cmp}
use Rattle.std.specs.Cmp.Lexicographic.{nat_list_cmp_total}
use Rattle.portal_rules.specs.Words.{put_all}
use Rattle.portal_tables.proofs.Lists.{filter_all}
use Rattle.portal_tables.proofs.Sorted.{NeverFall, all_permuted, in_order, sorted_order, put_all_map, permutes}
use Rattle.portal_tables.proofs.Sorted.{map_alike_on, at}

-- what a map gives, where its elements are known
pub all_map_on : {X Y : Type 0} (P : X → Type 0) (f g : X → Y) (xs : List X) → AllByRecursion P xs
    → ((x : X) → P x → f x ≡ g x) → map f xs ≡ map g xs
all_map_on P f g xs all h = map_alike_on f g xs (λ x has. h x (at P xs x all has))

-- the rows are those that pass, as they are shown
pub permuted : (keys : List ℕ) (p : Row → Bool) (show : Row → Row) (table shown : List Row)
    → ListsBy keys p show table shown → IsPermutation (map show (filter p table)) shown
permuted keys p show table shown h =
    let second = λ (k : Row × Row). k.1 in
    subst₂ IsPermutation (map-map second (λ r. (columns keys r, show r)) (filter p table)) (sym h.is)
    (IsPermutation-map second _ h.keyed h.same)

pub whole_table : (keys cs : List ℕ) (table shown : List Row) → ListsBy keys every (columns cs) table shown
    → IsPermutation (map (columns cs) table) shown
whole_table keys cs table shown h = subst (λ rows. IsPermutation (map (columns cs) rows) shown) (filter_all table)
    (permuted _ _ _ table shown h)

-- a value does not come after one that stands behind it
abbrev pub AtMost : Value → Value → Type 0
AtMost a b = is_gt (value_cmp a b) ≡ false

ascends : (at : ℕ) (rest : List ℕ) (p : Row → Bool) (table shown : List Row)
    → ListsBy (at ∷ []) p (columns (at ∷ rest)) table shown → IsAscending AtMost (map (λ c. column c 0) shown)
ascends at rest p table shown h =
    let pair : Row → Row × Row = λ r. (columns (at ∷ []) r, columns (at ∷ rest) r) in
    let alike : AllByRecursion (λ (k : Row × Row). column k.0 0 ≡ column k.1 0) h.keyed =
    all_permuted _ (map pair (filter p table)) h.keyed h.same
    (all_map (λ (k : Row × Row). column k.0 0 ≡ column k.1 0) pair (filter p table) (all_of _ (λ r. refl) (filter p table))) in
    let by_value : IsSorted (λ (a b : Row × Row). value_cmp (column a.0 0) (column b.0 0)) h.keyed =
    subst (λ (cmp : Row × Row → Row × Row → Ordering). IsSorted cmp h.keyed)
    (λ i a b. then-Equal (value_cmp (column a.0 0) (column b.0 0)) i) h.sorted in
    let up : IsAscending AtMost (map (λ (k : Row × Row). column k.0 0) h.keyed) =
    ascending_from_sorted value_cmp value_cmp_total _ (IsSorted-map value_cmp (λ (k : Row × Row). column k.0 0) h.keyed by_value) in
    subst (IsAscending AtMost) (all_map_on _ (λ (k : Row × Row). column k.0 0) (λ k. column k.1 0) h.keyed alike (λ k same. same)
    ∙ sym (ap (map (λ c. column c 0)) h.is ∙ map-map (λ c. column c 0) (λ (k : Row × Row). k.1) h.keyed)) up

-- so keys that go as they do never fall
module _ {X : Type 0} (R : X → X → Type 0) (f : X → Key) (G : X → Type 0)
    (agrees : (a b : X) → G a → G b → R a b → is_before (f b) (f a) ≡ false) where
  over : (v : X) (ws : List X) → G v → AllByRecursion (R v) ws → AllByRecursion G ws
      → AllByRecursion (λ l. is_before l (f v) ≡ false) (map f ws)
  over v [] g up all = tt
  over v (w ∷ ws) g up all = (agrees v w g all.0 up.0, over v ws g up.1 all.1)

  pub falls : (vs : List X) → IsAscending R vs → AllByRecursion G vs → NeverFall (map f vs)
  falls [] up all = tt
  falls (v ∷ vs) up all = (over v vs all.0 up.0 all.1, falls vs up.1 all.1)

turned : (o : Ordering) → is_gt o ≡ false → is_lt (ordering_reverse o) ≡ false
turned Greater h = h
turned _ h = refl

abbrev pub IsText : Value → Type 0
IsText v = (t : List ℕ) × (v ≡ Words t)

abbrev pub IsCount : Value → Type 0
IsCount v = (n : ℕ) × (v ≡ Int (pos n))

pub texts_agree : (a b : Value) → IsText a → IsText b → AtMost a b → is_before (bytes b) (bytes a) ≡ false
texts_agree a b s t h =
    let here : is_gt (slice_cmp nat_cmp s.0 t.0) ≡ false = ap is_gt (sym (value_cmp-Text s.0 t.0))
    ∙ sym (λ i. is_gt (value_cmp (s.1 i) (t.1 i))) ∙ h in
    (λ i. is_before (bytes (t.1 i)) (bytes (s.1 i))) ∙ ap is_lt (nat_list_cmp_total.antisymm t.0 s.0)
    ∙ turned (slice_cmp nat_cmp s.0 t.0) here

-- one that is not above is not behind
pos-lt : {m n : ℕ} → m < n → pos m <ℤ pos n
pos-lt {m} {n} less = record { lt = lt→ltb m n less }

at_most : (m n : ℕ) → is_gt (int_cmp (pos m) (pos n)) ≡ false → is_lt (nat_cmp n m) ≡ false
at_most m n h = elim (cases_lt n m) [
  | inl less ↦ absurd (let e : true ≡ false = ap is_gt (int_cmp_is (pos m) (pos n) Greater (pos-lt less)) ∙ h in cc)
  | inr most ↦ elim (cases_lt m n) [
    | inl less ↦ ap is_lt (sym (nat_cmp_is n m Greater less))
    | inr least ↦ ap is_lt
        (sym (nat_cmp_is n m Equal (omega (arith, most, least))))
  ]
]

pub counts_agree : (a b : Value) → IsCount a → IsCount b → AtMost a b
    → is_before (number_in b ∷ []) (number_in a ∷ []) ≡ false
counts_agree a b s t h =
    let here : is_gt (int_cmp (pos s.0) (pos t.0)) ≡ false = ap is_gt (sym (value_cmp-Int (pos s.0) (pos t.0)))
    ∙ sym (λ i. is_gt (value_cmp (s.1 i) (t.1 i))) ∙ h in
    (λ i. is_before (number_in (t.1 i) ∷ []) (number_in (s.1 i) ∷ [])) ∙ ap is_lt (then-Equal (nat_cmp t.0 s.0)) ∙ at_most s.0 t.0 here

-- a table by its keys

module _ (rest : List ℕ) (table shown : List Row) (h : ListsBy (1 ∷ []) every (columns (1 ∷ rest)) table shown) where
  whole_roll : IsPermutation (map (columns (1 ∷ rest)) table) shown
  whole_roll = whole_table (1 ∷ []) (1 ∷ rest) table shown h

  in_place : put_all first_cell (map (columns (1 ∷ rest)) table) [] ≡ map (columns (1 ∷ rest)) (by_key table)
  in_place = put_all_map row_key first_cell (columns (1 ∷ rest)) (λ r. refl) table []

  -- where the keys rise, the rows are those of the world's order
  pub roll_shown : Rise (map first_cell shown) → shown ≡ map (columns (1 ∷ rest)) (by_key table)
  roll_shown up = in_order first_cell (map (columns (1 ∷ rest)) table) shown whole_roll up ∙ in_place

  -- and they do where those of the world's order rise
  pub roll_rises : AllByRecursion (λ r. IsText (column r 1)) table → Rise (map row_key (by_key table))
      → Rise (map first_cell shown)
  roll_rises texts up =
      let good : AllByRecursion IsText (map (λ c. column c 0) shown) =
      all_map IsText (λ c. column c 0) shown (all_permuted (λ c. IsText (column c 0)) (map (columns (1 ∷ rest)) table) shown whole_roll
      (all_map (λ c. IsText (column c 0)) (columns (1 ∷ rest)) table texts)) in
      let never : NeverFall (map first_cell shown) =
      subst NeverFall (map-map bytes (λ c. column c 0) shown)
      (falls AtMost bytes IsText texts_agree _ (ascends 1 rest every table shown h) good) in
      let there : map first_cell (put_all first_cell (map (columns (1 ∷ rest)) table) [])
      ≡ map row_key (by_key table) = ap (map first_cell) in_place ∙ map-map first_cell (columns (1 ∷ rest)) (by_key table) in
      let found = sorted_order first_cell (map (columns (1 ∷ rest)) table) shown whole_roll never (subst Rise (sym there) up) in
      subst Rise (sym (ap (map first_cell) found ∙ there)) up

-- the list of one owner by its places

less_is : (m n : ℕ) → m < n → is_before (m ∷ []) (n ∷ []) ≡ true
less_is m n less = ap (λ o. is_lt (ordering_then o Equal)) (sym (nat_cmp_is m n Less less))

abbrev pub one : ℕ → Key
one n = n ∷ []

above : (m n : ℕ) (ms : List ℕ) → m < n → CountUp n ms → AllByRecursion (λ l. is_before (one m) l ≡ true) (map one ms)
above m n [] less up = tt
above m n (k ∷ ms) less up = (less_is m k (omega (arith, less, up.0)), above m (n + 1) ms (omega (arith, less)) up.1)

pub counts_rise : (n : ℕ) (ms : List ℕ) → CountUp n ms → Rise (map one ms)
counts_rise n [] up = tt
counts_rise n (k ∷ ms) up = (above k (n + 1) ms (omega (arith, up.0)) up.1, counts_rise (n + 1) ms up.1)

counts_high : (n : ℕ) (ms : List ℕ) → 1 ≤ n → CountUp n ms → AllByRecursion (λ m. 1 ≤ m) ms
counts_high n [] low up = tt
counts_high n (k ∷ ms) low up = (omega (arith, low, up.0), counts_high (n + 1) ms (omega (arith, low)) up.1)

is_count : (v : Value) → 1 ≤ number_in v → IsCount v
is_count (Int (pos n)) low = (n, refl)
is_count _ low = absurd (omega (arith, low))

abbrev list_columns : Row → Row
list_columns = columns (2 ∷ 3 ∷ [])

abbrev shown_key : Row → Key
shown_key c = one (shown_rank c)

module _ (key : Key) (table shown : List Row) (h : ListsBy (2 ∷ []) (has_text 1 key) list_columns table shown) where
  abbrev mine : List Row
  mine = of_key key table

  same : IsPermutation (map list_columns mine) shown
  same = permuted _ _ _ table shown h

  list_place : put_all shown_key (map list_columns mine) [] ≡ map list_columns (by_place mine)
  list_place = put_all_map place_key shown_key list_columns (λ r. refl) mine []

  list_shown : CountUp 1 (map shown_rank shown) → shown ≡ map list_columns (by_place mine)
  list_shown up = in_order shown_key (map list_columns mine) shown same (subst Rise (map-map one shown_rank shown) (counts_rise 1 _ up))
      ∙ list_place

  places_are : map shown_rank (map list_columns (by_place mine)) ≡ map place_of (by_place mine)
  places_are = map-map shown_rank list_columns (by_place mine)

  pub list_whole : CountUp 1 (map shown_rank shown) → IsWhole mine
  list_whole up = subst (CountUp 1) (ap (map shown_rank) (list_shown up) ∙ places_are) up

  pub list_names : CountUp 1 (map shown_rank shown) → map shown_name shown ≡ chosen table key
  list_names up = ap (map shown_name) (list_shown up) ∙ map-map shown_name list_columns (by_place mine)

  pub list_counts : IsWhole mine → CountUp 1 (map shown_rank shown)
  list_counts whole =
      let high : AllByRecursion (λ r. 1 ≤ place_of r) (by_place mine) =
      all_unmap (λ m. 1 ≤ m) place_of (by_place mine) (counts_high 1 _ (omega arith) whole) in
      let low : AllByRecursion (λ r. IsCount (column r 2)) mine =
      all_weaker _ _ (λ r. is_count (column r 2)) mine
      (all_permuted _ (by_place mine) mine (IsPermutation-sym _ _ (permutes place_key mine)) high) in
      let good : AllByRecursion (λ c. IsCount (column c 0)) shown =
      all_permuted (λ c. IsCount (column c 0)) (map list_columns mine) shown same
      (all_map (λ c. IsCount (column c 0)) list_columns mine low) in
      let never : NeverFall (map shown_key shown) = subst NeverFall (map-map (λ v. one (number_in v)) (λ c. column c 0) shown)
      (falls AtMost (λ v. one (number_in v)) IsCount counts_agree _ (ascends 2 (3 ∷ []) (has_text 1 key) table shown h)
      (all_map IsCount (λ c. column c 0) shown good)) in
      let rises : Rise (map shown_key (put_all shown_key (map list_columns mine) [])) =
      subst Rise (map-map one place_of (by_place mine)
      ∙ sym (ap (map shown_key) list_place ∙ map-map shown_key list_columns (by_place mine))) (counts_rise 1 _ whole) in
      let found = sorted_order shown_key (map list_columns mine) shown same never rises in
      subst (CountUp 1) (sym (ap (map shown_rank) (found ∙ list_place) ∙ places_are)) whole

-- a list that is empty has no row
pub none_chosen : (key : Key) (table : List Row) → chosen table key ≡ [] → of_key key table ≡ []
none_chosen key table e =
    let mine = of_key key table in
    nil_from_length mine (sym (length_permutation mine (by_place mine) (permutes place_key mine))
    ∙ sym (length-map (by_place mine) named_by) ∙ ap length e)
