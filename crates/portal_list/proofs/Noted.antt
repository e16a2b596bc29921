-- Places noted at projects, and marked.
use Rattle.portal_list.proofs.Base.{◌≡◌, ℕ, zero, suc, ◌+◌, ◌<◌, ◌≤◌, Bool, true, false, cond, List, [], ◌∷◌, ◌++◌, map}
use Rattle.portal_list.proofs.Base.{take, length, get_or, Bor, Vec, Global, Option, Some, None, refl, sym, ◌∙◌, ap}
use Rattle.portal_list.proofs.Base.{arith, ◌==◌, ◌||◌, ◌&&◌, slice_set, unwrap_or, list_any, or-true, or-false}
use Rattle.portal_list.proofs.Base.{length-take, map_push, text_eq, Key, equals, has, Student, is_same, passes_at}
use Rattle.portal_list.proofs.Base.{is_among, is_noted_in, is_noted, IsApplicantIndex, rules, replicate, eq-eqb, ne_eqb}
use Rattle.portal_list.proofs.Base.{or_assoc, and-true, and-false, get_or-set_same, get_or-set_other, list_any_more}
use Rattle.portal_list.proofs.Base.{list_any-append, is_sym}
use Rattle.std.specs.HashMap as hash
use Rattle.std.specs.HashMap.{HashMap}
use Rattle.std.proofs.Math.Bool.{and-or_distrib_right}
use lib.Dec.{eqb-zero-suc, eqb-suc-zero, eqb-suc-suc}
use Rattle.portal_rules.proofs.Growing.{grown}

among_push : (ns : List ℕ) (n i : ℕ) → is_among (ns ++ n ∷ []) i ≡ (is_among ns i || (n == i))
among_push ns n i = list_any-append (λ m. m == i) ns (n ∷ []) ∙ ap (λ b. is_among ns i || b) (or-false (n == i))

-- the places of an entry, or none
abbrev pub noted : Option (Vec ℕ Global) → List ℕ
noted None = []
noted (Some places) = places.items

among_noted : (o : Option (Vec ℕ Global)) (i : ℕ) → is_among (noted o) i ≡ is_noted_in o i
among_noted None i = refl
among_noted (Some places) i = refl

pub noted_or : (o : Option (Vec ℕ Global)) (d : Vec ℕ Global) → d.items ≡ [] → (unwrap_or o d).items ≡ noted o
noted_or None d none = none
noted_or (Some places) d none = refl

-- one more place was noted at a project
pub noted_put : {S : Type 0} (s t : HashMap (Bor Key) (Vec ℕ Global) S) (k : Bor Key) (v : Vec ℕ Global) (n : ℕ)
    → hash.Updates text_eq s t k (Some v)
    → v.items ≡ noted (hash.get text_eq s k) ++ n ∷ [] → (q : Bor Key) (i : ℕ)
    → is_noted t q i ≡ (is_noted s q i || (equals q.now k.now && (n == i)))
noted_put s t k v n updates items q i = go (equals q.now k.now) refl
  where
    go : (b : Bool) → equals q.now k.now ≡ b → is_noted t q i ≡ (is_noted s q i || (equals q.now k.now && (n == i)))
    go true e =
        let now : hash.get text_eq t q ≡ Some v = updates.0 q ∙ ap (λ b. cond b (Some v) (hash.get text_eq s q)) (is_sym k.now q.now ∙ e) in
        let same : hash.get text_eq s k ≡ hash.get text_eq s q =
        ap (λ y. hash.get text_eq s (record { ref_ptr = (0, 0); now = y })) (sym (is_same q.now k.now e)) in
        ap (λ o. is_noted_in o i) now ∙ ap (λ ns. is_among ns i) items ∙ among_push (noted (hash.get text_eq s k)) n i
        ∙ ap (λ b. b || (n == i)) (among_noted (hash.get text_eq s k) i ∙ ap (λ o. is_noted_in o i) same)
        ∙ ap (λ b. is_noted s q i || (b && (n == i))) (sym e)
    go false e =
        let now : hash.get text_eq t q ≡ hash.get text_eq s q = updates.0 q
        ∙ ap (λ b. cond b (Some v) (hash.get text_eq s q)) (is_sym k.now q.now ∙ e) in
        ap (λ o. is_noted_in o i) now ∙ sym (or-false (is_noted s q i)) ∙ ap (λ b. is_noted s q i || (b && (n == i))) (sym e)

-- one more project of a list
pub noted_more : (q k : Key) (choice : List Key) (j : ℕ) (d first old now : Bool)
    → old ≡ (first || (has (take j choice) q && d)) → now ≡ (old || (equals q k && d)) → j < length choice
    → get_or choice j k ≡ k
    → now ≡ (first || (has (take (j + 1) choice) q && d))
noted_more q k choice j d first old now was is_now low at =
    is_now ∙ ap (λ b. b || (equals q k && d)) was ∙ or_assoc first (has (take j choice) q && d) (equals q k && d)
    ∙ ap (λ b. first || b) (sym (and-or_distrib_right (has (take j choice) q) (equals q k) d)
    ∙ ap (λ b. b && d) (ap (λ x. has (take j choice) q || equals q x) (sym at) ∙ sym (list_any_more (equals q) choice j k low)))

module _ {X : Type 0} where
  pub passes_push : (p : X → Bool) (xs : List X) (x : X) (i : ℕ)
      → passes_at p (xs ++ x ∷ []) i ≡ (passes_at p xs i || (p x && (length xs == i)))
  passes_push p [] x zero = sym (ap (λ b. p x && b) (eq-eqb 0 0 refl) ∙ and-true (p x))
  passes_push p [] x (suc i) = sym (ap (λ b. p x && b) (eqb-zero-suc i) ∙ and-false (p x))
  passes_push p (y ∷ ys) x zero = sym (ap (λ b. p y || (p x && b)) (eqb-suc-zero (length ys)) ∙ ap (λ b. p y || b) (and-false (p x))
      ∙ or-false (p y))
  passes_push p (y ∷ ys) x (suc i) = passes_push p ys x i ∙ ap (λ b. passes_at p ys i || (p x && b)) (sym (eqb-suc-suc (length ys) i))

  -- of one element more
  pub passes_more : (p : X → Bool) (xs : List X) (n : ℕ) (x : X) (i : ℕ) → n < length xs → get_or xs n x ≡ x
      → passes_at p (take (n + 1) xs) i ≡ (passes_at p (take n xs) i || (p x && (n == i)))
  passes_more p xs n x i low at =
      let long : length (take n xs) ≡ n = omega (arith, length-take n xs) in
      ap (λ ys. passes_at p ys i) (grown xs n x low at) ∙ passes_push p (take n xs) x i
      ∙ ap (λ m. passes_at p (take n xs) i || (p x && (m == i))) long

  -- of one test more
  pub passes_either : (p r : X → Bool) (xs : List X) (i : ℕ)
      → passes_at (λ x. p x || r x) xs i ≡ (passes_at p xs i || passes_at r xs i)
  passes_either p r [] i = refl
  passes_either p r (x ∷ xs) zero = refl
  passes_either p r (x ∷ xs) (suc i) = passes_either p r xs i

  pub passes_never : (xs : List X) (i : ℕ) → passes_at (λ _. false) xs i ≡ false
  passes_never [] i = refl
  passes_never (x ∷ xs) zero = refl
  passes_never (x ∷ xs) (suc i) = passes_never xs i

  -- of the element at a place
  pub passes_here : (p : X → Bool) (xs : List X) (i : ℕ) (x : X) → i < length xs → get_or xs i x ≡ x
      → passes_at p xs i ≡ p x
  passes_here p [] i x low at = absurd (omega arith)
  passes_here p (y ∷ ys) zero x low at = ap p at
  passes_here p (y ∷ ys) (suc i) x low at = passes_here p ys i x (omega arith) at

  pub passes_alike : (p r : X → Bool) (xs : List X) (i : ℕ) → ((x : X) → p x ≡ r x)
      → passes_at p xs i ≡ passes_at r xs i
  passes_alike p r xs i same = ap (λ f. passes_at f xs i) (λ j x. same x j)

-- a place was marked
pub marked : (xs : List Bool) (k i : ℕ) → k < length xs
    → get_or (slice_set xs k true) i false ≡ (get_or xs i false || (k == i))
marked xs k i low = search (rules, get_or-set_same, eq-eqb, or-true, get_or-set_other, ne_eqb, or-false)

-- a place beyond the marks was not
pub unmarked : (xs : List Bool) (k i : ℕ) → length xs ≤ k → i < length xs
    → get_or xs i false ≡ (get_or xs i false || (k == i))
unmarked xs k i far low = sym (ap (λ b. get_or xs i false || b) (ne_eqb k i (λ e. absurd (omega (arith, e))))
    ∙ or-false (get_or xs i false))

-- one more place of several: now is what a mark makes of old
pub marks_more : (places : List ℕ) (j k i : ℕ) (first old now : Bool) → old ≡ (first || is_among (take j places) i)
    → now ≡ (old || (k == i)) → j < length places → get_or places j k ≡ k
    → now ≡ (first || is_among (take (j + 1) places) i)
marks_more places j k i first old now was is_now low at =
    is_now ∙ ap (λ b. b || (k == i)) was ∙ or_assoc first (is_among (take j places) i) (k == i)
    ∙ ap (λ b. first || b) (ap (λ n. is_among (take j places) i || (n == i)) (sym at) ∙ sym (list_any_more (λ n. n == i) places j k low))

-- once the places of one more project are marked: q has the text of the project x
pub wanted_more : {S : Type 0} (students : List Student) (table : HashMap (Bor Key) (Vec ℕ Global) S)
    → IsApplicantIndex students table
    → (projects : List (Bor Key)) (j : ℕ) (x q : Bor Key) → j < length projects → get_or projects j x ≡ x → q.now ≡ x.now
    → (i : ℕ) (old now : Bool) → old ≡ passes_at (λ s. list_any (λ p. has s.choice p) (map (λ k. k.now) (take j projects))) students i
    → now ≡ (old || is_noted table q i)
    → now ≡ passes_at (λ s. list_any (λ p. has s.choice p) (map (λ k. k.now) (take (j + 1) projects))) students i
wanted_more students table wanted projects j x q low at same i old now was is_now =
    is_now ∙ (λ l. was l || wanted q i l) ∙ sym (passes_either first (λ s. has s.choice q.now) students i)
    ∙ passes_alike _ _ students i more
  where
    first : Student → Bool
    first s = list_any (λ p. has s.choice p) (map (λ k. k.now) (take j projects))

    more : (s : Student)
        → (first s || has s.choice q.now) ≡ list_any (λ p. has s.choice p) (map (λ k. k.now) (take (j + 1) projects))
    more s =
        let p : Key → Bool = λ k. has s.choice k in
        ap (λ k. first s || p k) same ∙ ap (λ b. first s || b) (sym (or-false (p x.now)))
        ∙ sym (list_any-append p (map (λ k. k.now) (take j projects)) (x.now ∷ []))
        ∙ ap (list_any p) (sym (ap (map (λ k. k.now)) (grown projects j x low at) ∙ map_push (λ k. k.now) (take j projects) x))

pub none_marked : (n i : ℕ) → get_or (replicate n false) i false ≡ false
none_marked zero i = refl
none_marked (suc n) zero = refl
none_marked (suc n) (suc i) = none_marked n i
