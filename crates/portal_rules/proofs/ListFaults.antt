-- A submitted list or ranking: its first wrong key is told, and whether there is one.
use Rattle.portal_rules.proofs.Base.{◌≡◌, [], ◌⊎◌, inl, inr, ℕ, ◌+◌, ◌<◌, ◌≤◌, Bool, true, false, List, ◌∷◌, ◌++◌}
use Rattle.portal_rules.proofs.Base.{length, refl, sym, ◌∙◌, ap, subst, arith, append_assoc, append-nil, Option, Some}
use Rattle.portal_rules.proofs.Base.{None, codes, nat_tests, AllByRecursion, Listing, Person, Key, equals, has}
use Rattle.portal_rules.proofs.Base.{AreDistinct, in_catalogue, is_applicant, lacks_one, ListFault, fault_at, or_later}
use Rattle.portal_rules.proofs.Base.{first_wrong, choice_fault, or_missing, ranking_fault, length-append, wrong_choice}
use Rattle.portal_rules.proofs.Base.{wrong_rank, NoneWrong, IsFirstWrong}
use Rattle.spa_rows.specs.Limits.{longest_choice}
use Rattle.portal_rules.proofs.AllLaws.{all_weaker, all_both, none_after, none_is, not_first, split_append}

-- the next key is wrong, or a later one is
told : (at : ℕ) (o : Option (List ℕ)) (later : Option ListFault) (f : ListFault) → or_later at o later ≡ Some f
    → ((word : List ℕ) × (o ≡ Some word) × (f ≡ fault_at at word)) ⊎ ((o ≡ None) × (later ≡ Some f))
told at (Some word) later f e = inl (word, refl, cc)
told at None later f e = inr (refl, e)

untold : (at : ℕ) (o : Option (List ℕ)) (later : Option ListFault) → or_later at o later ≡ None
    → (o ≡ None) × (later ≡ None)
untold at o later e = grind arith

module _ (wrong : List Key → Key → Option (List ℕ)) where
  abbrev NoneFrom : List Key → List Key → Type 0
  NoneFrom earlier list = (before : List Key) (k : Key) (after : List Key) → list ≡ before ++ k ∷ after → wrong (earlier ++ before) k ≡ None

  abbrev Found : List Key → List Key → ListFault → Type 0
  Found earlier list f =
      (front : List Key) × (k : Key) × (rest : List Key) × (list ≡ front ++ k ∷ rest) × (f.at ≡ length earlier + (length front + 1))
      × (wrong (earlier ++ front) k ≡ Some f.word) × NoneFrom earlier front

  none_in : (earlier : List Key) → NoneFrom earlier []
  none_in earlier [] k after e = cc
  none_in earlier (x ∷ before) k after e = cc

  none_more : (earlier : List Key) (k : Key) (ks : List Key) → wrong earlier k ≡ None → NoneFrom (earlier ++ k ∷ []) ks
      → NoneFrom earlier (k ∷ ks)
  none_more earlier k ks good more [] y after e =
      let one : k ≡ y = cc in
      subst (λ xs. wrong xs y ≡ None) (sym (append-nil earlier)) (subst (λ z. wrong earlier z ≡ None) one good)
  none_more earlier k ks good more (x ∷ before) y after e =
      let one : k ≡ x = cc in
      let rest : ks ≡ before ++ y ∷ after = cc in
      subst (λ z. wrong (earlier ++ z ∷ before) y ≡ None) one
      (subst (λ xs. wrong xs y ≡ None) (append_assoc earlier (k ∷ []) before) (more before y after rest))

  later : (earlier : List Key) (k : Key) (ks : List Key) (f : ListFault) → wrong earlier k ≡ None
      → Found (earlier ++ k ∷ []) ks f → Found earlier (k ∷ ks) f
  later earlier k ks f good (front, x, rest, parts, position, word, none) = (
    k ∷ front,
    x,
    rest,
    ap (λ l. k ∷ l) parts,
    omega (arith, position, length-append earlier (k ∷ [])),
    subst (λ xs. wrong xs x ≡ Some f.word) (append_assoc earlier (k ∷ []) front) word,
    none_more earlier k front good none,
  )

  here : (earlier : List Key) (k : Key) (ks : List Key) (f : ListFault) (word : List ℕ) → wrong earlier k ≡ Some word
      → f ≡ fault_at (length earlier + 1) word → Found earlier (k ∷ ks) f
  here earlier k ks f word is same = (
    [],
    k,
    ks,
    refl,
    omega (arith, ap (λ (x : ListFault). x.at) same),
    subst (λ xs. wrong xs k ≡ Some f.word) (sym (append-nil earlier)) (is ∙ ap Some (sym (ap (λ (x : ListFault). x.word) same))),
    none_in earlier,
  )

  found : (earlier list : List Key) (f : ListFault) → first_wrong wrong earlier list ≡ Some f → Found earlier list f
  found earlier [] f e = cc
  found earlier (k ∷ ks) f e = elim (told (length earlier + 1) (wrong earlier k) (first_wrong wrong (earlier ++ k ∷ []) ks) f e) [
    | inl (word, is, same) ↦ here earlier k ks f word is same
    | inr (good, rest) ↦ later earlier k ks f good (found (earlier ++ k ∷ []) ks f rest)
  ]

  none_wrong : (earlier list : List Key) → first_wrong wrong earlier list ≡ None → NoneFrom earlier list
  none_wrong earlier [] e = none_in earlier
  none_wrong earlier (k ∷ ks) e =
      let parts = untold (length earlier + 1) (wrong earlier k) (first_wrong wrong (earlier ++ k ∷ []) ks) e in
      none_more earlier k ks parts.0 (none_wrong (earlier ++ k ∷ []) ks parts.1)

  pub is_first : (list : List Key) (f : ListFault) → first_wrong wrong [] list ≡ Some f → IsFirstWrong wrong list f
  is_first list f e =
      let (front, k, rest, parts, position, word, none) = found [] list f e in
      record { front = front; key = k; rest = rest; parts = parts; position = omega (arith, position); word = word; none_before = none }

-- a missing applicant is told only if no key is wrong
pub rank_first : (applicants : List (Key × List Person)) (list : List Key) (f : ListFault)
    → ranking_fault applicants list ≡ Some f
    → IsFirstWrong (wrong_rank applicants) list f
    ⊎ ((f ≡ fault_at 0 (codes "missing")) × NoneWrong (wrong_rank applicants) list × (lacks_one applicants list ≡ true))
rank_first applicants list f e = go (first_wrong (wrong_rank applicants) [] list) refl (lacks_one applicants list) refl e
  where
    go : (o : Option ListFault) → first_wrong (wrong_rank applicants) [] list ≡ o → (lacks : Bool)
        → lacks_one applicants list ≡ lacks → or_missing lacks o ≡ Some f
        → IsFirstWrong (wrong_rank applicants) list f
        ⊎ ((f ≡ fault_at 0 (codes "missing")) × NoneWrong (wrong_rank applicants) list × (lacks_one applicants list ≡ true))
    go (Some g) so lacks l told = inl (is_first (wrong_rank applicants) list f (so ∙ told))
    go None so true l told = inr (cc, none_wrong (wrong_rank applicants) [] list so, l)
    go None so false l told = cc

-- a list whose keys pass the test, none of them twice and none of them an earlier one
pub record Fits (passes : Key → Bool) (earlier list : List Key) : Type 0 where
  pub only : AllByRecursion (λ k. passes k ≡ true) list
  pub once : AreDistinct list
  pub new : AllByRecursion (λ k. has earlier k ≡ false) list

module _ (wrong : List Key → Key → Option (List ℕ)) (passes : Key → Bool) where
  fits : ((earlier : List Key) (k : Key) → wrong earlier k ≡ None → (passes k ≡ true) × (has earlier k ≡ false))
      → (earlier list : List Key) → first_wrong wrong earlier list ≡ None → Fits passes earlier list
  fits right earlier [] e = record { only = tt; once = tt; new = tt }
  fits right earlier (k ∷ ks) e =
      let parts = untold (length earlier + 1) (wrong earlier k) (first_wrong wrong (earlier ++ k ∷ []) ks) e in
      let here = right earlier k parts.0 in
      let rest = fits right (earlier ++ k ∷ []) ks parts.1 in
      let apart : AllByRecursion (λ l. (has earlier l ≡ false) × (equals l k ≡ false)) ks =
      all_weaker _ _ (λ l h. split_append earlier k l h) ks rest.new in
      record {
        only = (here.0, rest.only);
        once = (none_is k ks (all_weaker _ _ (λ l h. h.1) ks apart), rest.once);
        new = (here.1, all_weaker _ _ (λ l h. h.0) ks apart);
      }

  -- where no key that fits is wrong, up to a number of keys
  faultless : (most : ℕ)
      → ((earlier : List Key) (k : Key) → length earlier < most → passes k ≡ true → has earlier k ≡ false → wrong earlier k ≡ None)
      → (earlier list : List Key) → length earlier + length list ≤ most → Fits passes earlier list → first_wrong wrong earlier list ≡ None
  faultless most right earlier [] few f = refl
  faultless most right earlier (k ∷ ks) few f =
      let rest : Fits passes (earlier ++ k ∷ []) ks =
      record {
        only = f.only.1;
        once = f.once.1;
        new = all_weaker _ _ (λ l h. none_after earlier k l h.0 h.1) ks (all_both _ _ ks f.new.1 (not_first k ks f.once));
      } in
      rw (right earlier k (omega arith) f.only.0 f.new.0)
      (faultless most right (earlier ++ k ∷ []) ks (omega (arith, length-append earlier (k ∷ []))) rest)

-- a student's list

module _ (catalogue : List Listing) where
  few : (earlier list : List Key) → length earlier ≤ longest_choice → first_wrong (wrong_choice catalogue) earlier list ≡ None
      → length earlier + length list ≤ longest_choice
  few earlier [] low e = omega arith
  few earlier (k ∷ ks) low e =
      let parts = untold (length earlier + 1) (wrong_choice catalogue earlier k)
      (first_wrong (wrong_choice catalogue) (earlier ++ k ∷ []) ks) e in
      let one = parts.0 in
      let room : length earlier + 1 ≤ longest_choice = grind (arith, nat_tests) in
      let long = length-append earlier (k ∷ []) in
      let all = few (earlier ++ k ∷ []) ks (omega arith) parts.1 in
      omega arith

  pub chosen : (list : List Key) → choice_fault catalogue list ≡ None
      → (length list ≤ longest_choice) × Fits (in_catalogue catalogue) [] list
  chosen list e = (
    (let all = few [] list (omega arith) e in omega arith),
    fits (wrong_choice catalogue) (in_catalogue catalogue) (λ earlier k good. grind arith) [] list e,
  )

  pub choice_taken : (list : List Key) → length list ≤ longest_choice → Fits (in_catalogue catalogue) [] list
      → choice_fault catalogue list ≡ None
  choice_taken list low f = faultless (wrong_choice catalogue) (in_catalogue catalogue) longest_choice
      (λ earlier k room known new. grind (arith, nat_tests)) [] list (omega arith) f

-- a lecturer's ranking

module _ (applicants : List (Key × List Person)) where
  pub ranked : (list : List Key) → ranking_fault applicants list ≡ None
      → Fits (is_applicant applicants) [] list × (lacks_one applicants list ≡ false)
  ranked list e =
      let parts : (first_wrong (wrong_rank applicants) [] list ≡ None) × (lacks_one applicants list ≡ false) = grind arith in
      (fits (wrong_rank applicants) (is_applicant applicants) (λ earlier k good. grind arith) [] list parts.0, parts.1)

  pub ranking_taken : (list : List Key) → Fits (is_applicant applicants) [] list → lacks_one applicants list ≡ false
      → ranking_fault applicants list ≡ None
  ranking_taken list f all = rw (
    faultless (wrong_rank applicants) (is_applicant applicants) (length list)
        (λ earlier k low known new. rw (known, new) refl) [] list (omega arith) f,
    all,
  ) refl
