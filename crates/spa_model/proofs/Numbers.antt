-- The number of a key, among keys that rise.
use Rattle.spa_model.proofs.Base.{◌≡◌, ℕ, zero, suc, ◌+◌, ◌<◌, ◌≤◌, true, false, List, [], ◌∷◌, map, length, get_or}
use Rattle.spa_model.proofs.Base.{refl, sym, ◌∙◌, ap, arith, Contains, Less, Equal, Greater, Ordering, nat_cmp, is_lt}
use Rattle.spa_model.proofs.Base.{slice_cmp, bytes_eq, nat_list_cmp_total, length-map, get_or-map, bytes_eq-Decides}
use Rattle.spa_model.proofs.Base.{true≢false, Text, TextsRise, number_in, rules, is_eq, ordering_reverse}
use Rattle.spa_model.proofs.Base.{position_or_len_is}
use Rattle.spa_model.proofs.Base.{passes_at_first, fails_before_first}
use Rattle.std.specs.List.Sorted.{IsSortedBy}
use Rattle.std.proofs.lemmas.Map.Text.{is_eq-slice_cmp}

-- what holds of a row's key holds of the key at its place
at_map : {X : Type 0} (key : X → Text) (rows : List X) (P : Text → Type 0) (k : ℕ) → k < length rows
    → ((d : X) → P (key (get_or rows k d))) → P (get_or (map key rows) k [])
at_map key [] P k h f = absurd (omega arith)
at_map key (x ∷ rows) P zero h f = f x
at_map key (x ∷ rows) P (suc k) h f = at_map key rows P k (omega arith) f

-- rows whose keys rise are sorted
pub sorted_rows : {X : Type 0} (key : X → Text) (rows : List X) → TextsRise (map key rows)
    → IsSortedBy (λ a b. is_lt (slice_cmp nat_cmp (key a) (key b))) rows
sorted_rows key rows rise k d low high =
    let size = length-map rows key in
    let less : slice_cmp nat_cmp (get_or (map key rows) k []) (get_or (map key rows) (k + 1) [])
    ≡ Less = rise k (k + 1) [] (omega arith) (omega arith) in
    let here = get_or-map key rows k d [] (omega arith) in
    let next = get_or-map key rows (k + 1) d [] high in
    ap is_lt (nat_list_cmp_total.antisymm (key (get_or rows (k + 1) d)) (key (get_or rows k d))
    ∙ ap ordering_reverse (rw (here, next) at less))

not_equal : (a b : Text) (o : Ordering) → slice_cmp nat_cmp a b ≡ o → is_eq o ≡ false → bytes_eq a b ≡ false
not_equal a b o e f = sym (is_eq-slice_cmp a b) ∙ ap is_eq e ∙ f

equal : (a b : Text) → slice_cmp nat_cmp a b ≡ Equal → bytes_eq a b ≡ true
equal a b e = sym (is_eq-slice_cmp a b) ∙ ap is_eq e

-- the row that compares as equal has the number
pub number_found : {X : Type 0} (key : X → Text) (rows : List X) (text : Text) (n : ℕ) → TextsRise (map key rows)
    → n < length rows → ((d : X) → slice_cmp nat_cmp (key (get_or rows n d)) text ≡ Equal)
    → n ≡ number_in (map key rows) text
number_found key rows text n rise h found =
    let size = length-map rows key in
    let same : bytes_eq (get_or (map key rows) n []) text
    ≡ true = at_map key rows (λ t. bytes_eq t text ≡ true) n h (λ d. equal (key (get_or rows n d)) text (found d)) in
    let is_text : get_or (map key rows) n [] ≡ text = (bytes_eq-Decides (get_or (map key rows) n []) text).0 same in
    sym (position_or_len_is (λ t. bytes_eq t text) (map key rows) n [] (omega arith)
    (λ k below. let less : slice_cmp nat_cmp (get_or (map key rows) k []) (get_or (map key rows) n [])
    ≡ Less = rise k n [] below (omega arith) in not_equal (get_or (map key rows) k []) text Less (rw is_text at less) refl)
    (λ _. same))

-- where each row compares as less or greater, there is none
pub number_none : {X : Type 0} (key : X → Text) (rows : List X) (text : Text) (n : ℕ)
    → ((k : ℕ) (d : X) → k < n → slice_cmp nat_cmp (key (get_or rows k d)) text ≡ Less)
    → ((k : ℕ) (d : X) → n ≤ k → k < length rows → slice_cmp nat_cmp (key (get_or rows k d)) text ≡ Greater)
    → length rows ≡ number_in (map key rows) text
number_none key rows text n below above =
    let size = length-map rows key in
    sym (position_or_len_is (λ t. bytes_eq t text) (map key rows) (length rows) [] (omega arith)
    (λ k h. at_map key rows (λ t. bytes_eq t text ≡ false) k h (λ d. grind (arith, at_map, not_equal)))
    (λ past. absurd (omega arith)))

-- a number below the count is that of the text
pub number_is : (keys : List Text) (text : Text) → number_in keys text < length keys
    → get_or keys (number_in keys text) [] ≡ text
number_is keys text h = (bytes_eq-Decides (get_or keys (number_in keys text) []) text).0 (passes_at_first (λ t. bytes_eq t text) keys [] h)

-- a key has a number below the count
pub number_known : (keys : List Text) (text : Text) → Contains keys text → number_in keys text < length keys
number_known keys text (k, h, e) = search (rules, true≢false, bytes_eq-Decides, fails_before_first)

-- a number below the count is that of a key
pub known_number : (keys : List Text) (text : Text) → number_in keys text < length keys → Contains keys text
known_number keys text h = (
  number_in keys text,
  h,
  (bytes_eq-Decides (get_or keys (number_in keys text) text) text).0 (passes_at_first (λ t. bytes_eq t text) keys text h),
)
