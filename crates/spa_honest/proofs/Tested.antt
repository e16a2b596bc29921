-- What is computed of a small instance: that it is lawful, and that a matching is stable or the best.
use Rattle.spa_honest.proofs.Base.{◌≡◌, ◌≢◌, inl, inr, ℕ, zero, suc, ◌<◌, ◌≤◌, Bool, true, false, eqb, List, [], ◌∷◌}
use Rattle.spa_honest.proofs.Base.{length, get_or, refl, ap, arith, subst, AllPairs, Less, nat_cmp, slice_cmp, eqb-true}
use Rattle.spa_honest.proofs.Base.{eq-eqb, cases_lt, Option, Some, None, Spa, project_of, place, choices_of}
use Rattle.spa_honest.proofs.Base.{lecturer_of, ranking_of, capacity_of, limit_of, at_project, at_lecturer, IsOn}
use Rattle.spa_honest.proofs.Base.{IsBefore, IsAcceptable, IsDistinct, IsLawful, Improves, Wants, IsStable, IsBest}
use Rattle.spa_honest.proofs.Base.{IsRanked, A, rules, ltb, ◌&&◌, ◌||◌, not, Ordering, list_all, list_any, is_lt}
use Rattle.spa_honest.proofs.Base.{and_parts, or_cases, ltb-true, get_or_past, TextsRise, get_or-place, blocked}
use Rattle.std.proofs.Common.{leb}
use Rattle.std.proofs.lemmas.Bool.{leb-true}
use Rattle.std.proofs.lemmas.List.Folds.{Any-from_list_any}
use Rattle.std.proofs.lemmas.List.FromFn.{get_or-range_with_len, length-range_with_len}
use Rattle.std.proofs.lemmas.List.Kept.{AllPairs-cons}
use Rattle.std.proofs.lemmas.List.Sums.{AllPass-from_list_all}
use Rattle.std.specs.List.{range_with_len}
use Rattle.spa_rows.specs.Limits.{most_lecturers, most_projects, most_students, longest_choice, most_places}
use Rattle.spa_model.proofs.Lawful.{at_on}
use Rattle.spa_honest.proofs.Base.{◌⊎◌, ◌∙◌, IsMatching, IsAsGood, IsTaken, IsBusy, is_project, is_lecturer, lt-ltb, ne_eqb, student_in_range, is_project-at}
use Rattle.spa_model.proofs.Counts.{count_by-none, off_project}
use Rattle.spa_honest.proofs.Explained.{stable_so}

-- ---- tests of numbers and of lists

-- of each number below n, of some number below n
abbrev each : (ℕ → Bool) → ℕ → Bool
each test n = list_all test (range_with_len 0 n)

abbrev some : (ℕ → Bool) → ℕ → Bool
some test n = list_any test (range_with_len 0 n)

each_at : (test : ℕ → Bool) (n k : ℕ) → each test n ≡ true → k < n → test k ≡ true
each_at test n k h low =
    let at : get_or (range_with_len 0 n) k 0 ≡ k = omega (arith, get_or-range_with_len 0 n k 0 low) in
    rw at at (AllPass-from_list_all test (range_with_len 0 n) h k 0 (omega (arith, low, length-range_with_len 0 n)))

some_at : (test : ℕ → Bool) (n : ℕ) → some test n ≡ true → (k : ℕ) × (test k ≡ true)
some_at test n h = let any = Any-from_list_any test (range_with_len 0 n) h in (any.1, any.4)

-- of each element, and of what is past the end
each_of : {X : Type 0} (test : X → Bool) (d : X) (xs : List X) → test d ≡ true → list_all test xs ≡ true → (k : ℕ)
    → test (get_or xs k d) ≡ true
each_of test d [] past h k = past
each_of test d (x ∷ xs) past h zero = (and_parts (test x) (list_all test xs) h).0
each_of test d (x ∷ xs) past h (suc k) = each_of test d xs past (and_parts (test x) (list_all test xs) h).1 k

-- of what stands on a list, and on each of several lists
entry : (test : ℕ → Bool) (list : List ℕ) (q : ℕ) → list_all test list ≡ true → IsOn list q → test q ≡ true
entry test list q h on = rw (get_or-place list q 0 on) at (AllPass-from_list_all test list h (place list q) 0 on)

abbrev each_entry : (ℕ → ℕ → Bool) → List (List ℕ) → Bool
each_entry test lists = each (λ s. list_all (test s) (get_or lists s [])) (length lists)

entry_at : (test : ℕ → ℕ → Bool) (lists : List (List ℕ)) → each_entry test lists ≡ true → (s q : ℕ)
    → IsOn (get_or lists s []) q → test s q ≡ true
entry_at test lists h s q on = elim (cases_lt s (length lists)) [
  | inl low ↦ entry (test s) (get_or lists s []) q (each_at (λ k. list_all (test k) (get_or lists k [])) (length lists) s h low) on
  | inr past ↦ let none : get_or lists s [] ≡ [] = get_or_past lists s [] past in absurd (omega (arith, rw none at on))
]

-- of each element beside each later one
abbrev pairwise : {X : Type 0} → (X → X → Bool) → List X → Bool
pairwise test [] = true
pairwise test (x ∷ xs) = list_all (test x) xs && pairwise test xs

pairs : {X : Type 0} (test : X → X → Bool) (R : X → X → Type 0) → ((a b : X) → test a b ≡ true → R a b) → (xs : List X)
    → pairwise test xs ≡ true → AllPairs R xs
pairs test R sound [] h i j d less low = absurd (omega arith)
pairs test R sound (x ∷ xs) h i j d less low =
    let both = and_parts (list_all (test x) xs) (pairwise test xs) h in
    AllPairs-cons R x xs (λ k e h. sound x (get_or xs k e) (AllPass-from_list_all (test x) xs both.0 k e h))
    (pairs test R sound xs both.1) i j d less low

abbrev rises : List (List ℕ) → Bool
rises keys = pairwise (λ a b. is_lt (slice_cmp nat_cmp a b)) keys

rise : (keys : List (List ℕ)) → rises keys ≡ true → TextsRise keys
rise = pairs (λ a b. is_lt (slice_cmp nat_cmp a b)) (λ a b. slice_cmp nat_cmp a b ≡ Less) (λ a b. less (slice_cmp nat_cmp a b))
  where
    less : (o : Ordering) → is_lt o ≡ true → o ≡ Less
    less Less h = refl
    less o h = absurd (cc)

abbrev differ : List ℕ → Bool
differ list = pairwise (λ a b. not (eqb a b)) list

apart : (list : List ℕ) → differ list ≡ true → IsDistinct list
apart = pairs (λ a b. not (eqb a b)) (λ a b. a ≢ b) (λ a b h same. let wrong : not true ≡ true = rw (eq-eqb a b same) at h in cc)

-- ---- a lawful instance

abbrev is_in_range : ℕ → Bool
is_in_range n = leb 1 n && leb n most_places

abbrev lawful_tests : Spa → List Bool
lawful_tests i =
    eqb (length i.student_keys) (length i.choices)
    ∷ eqb (length i.project_keys) (length i.lecturers)
    ∷ eqb (length i.capacities) (length i.lecturers)
    ∷ eqb (length i.lecturer_keys) (length i.rankings)
    ∷ eqb (length i.limits) (length i.rankings)
    ∷ rises i.student_keys ∷ rises i.project_keys ∷ rises i.lecturer_keys
    ∷ each (λ p. ltb (lecturer_of i p) (length i.rankings)) (length i.lecturers)
    ∷ each_entry (λ _ p. ltb p (length i.lecturers)) i.choices
    ∷ each_entry (λ s p. ltb (place (ranking_of i (lecturer_of i p)) s) (length (ranking_of i (lecturer_of i p)))) i.choices
    ∷ each_entry (λ l s. list_any (λ p. eqb (lecturer_of i p) l) (choices_of i s)) i.rankings
    ∷ list_all differ i.choices ∷ list_all differ i.rankings
    ∷ each (λ p. is_in_range (capacity_of i p)) (length i.lecturers)
    ∷ each (λ l. is_in_range (limit_of i l)) (length i.rankings)
    ∷ list_all (λ list. leb (length list) longest_choice) i.choices
    ∷ leb (length i.choices) most_students ∷ leb (length i.lecturers) most_projects ∷ leb (length i.rankings) most_lecturers ∷ []

pub lawful_by : (i : Spa) → list_all (λ b. b) (lawful_tests i) ≡ true → IsLawful i
lawful_by i all = record {
  student_rows = eqb-true (length i.student_keys) (length i.choices) (passes 0);
  project_key_rows = eqb-true (length i.project_keys) (length i.lecturers) (passes 1);
  project_rows = eqb-true (length i.capacities) (length i.lecturers) (passes 2);
  lecturer_key_rows = eqb-true (length i.lecturer_keys) (length i.rankings) (passes 3);
  lecturer_rows = eqb-true (length i.limits) (length i.rankings) (passes 4);
  student_keys_rise = rise i.student_keys (passes 5);
  project_keys_rise = rise i.project_keys (passes 6);
  lecturer_keys_rise = rise i.lecturer_keys (passes 7);
  offered = λ p low. ltb-true (lecturer_of i p) (length i.rankings)
      (each_at (λ q. ltb (lecturer_of i q) (length i.rankings)) (length i.lecturers) p (passes 8) low);
  known = λ s p on. ltb-true p (length i.lecturers) (entry_at (λ _ q. ltb q (length i.lecturers)) i.choices (passes 9) s p on);
  ranked = λ s p on. ltb-true (place (ranking_of i (lecturer_of i p)) s) (length (ranking_of i (lecturer_of i p)))
      (entry_at (λ t q. ltb (place (ranking_of i (lecturer_of i q)) t) (length (ranking_of i (lecturer_of i q)))) i.choices
      (passes 10) s p on);
  applicants = λ l s on.
      let any = Any-from_list_any (λ p. eqb (lecturer_of i p) l) (choices_of i s)
      (entry_at (λ k t. list_any (λ p. eqb (lecturer_of i p) k) (choices_of i t)) i.rankings (passes 11) l s on) in
      (any.1, at_on (choices_of i s) any.0 any.1 any.2 any.3, eqb-true (lecturer_of i any.1) l any.4);
  choices_distinct = λ s. apart (choices_of i s) (each_of differ [] i.choices refl (passes 12) s);
  distinct = λ l. apart (ranking_of i l) (each_of differ [] i.rankings refl (passes 13) l);
  capacities_in_range = λ p low. in_range (capacity_of i p)
      (each_at (λ q. is_in_range (capacity_of i q)) (length i.lecturers) p (passes 14) low);
  limits_in_range = λ l low. in_range (limit_of i l) (each_at (λ k. is_in_range (limit_of i k)) (length i.rankings) l (passes 15) low);
  lists_short = λ s. leb-true (length (choices_of i s)) longest_choice
      (each_of (λ list. leb (length list) longest_choice) [] i.choices refl (passes 16) s);
  student_count = leb-true (length i.choices) most_students (passes 17);
  project_count = leb-true (length i.lecturers) most_projects (passes 18);
  lecturer_count = leb-true (length i.rankings) most_lecturers (passes 19);
} where
  passes : (k : ℕ) → get_or (lawful_tests i) k true ≡ true
  passes = each_of (λ b. b) true (lawful_tests i) refl all

  in_range : (n : ℕ) → is_in_range n ≡ true → (1 ≤ n) × (n ≤ most_places)
  in_range n h = let both = and_parts (leb 1 n) (leb n most_places) h in (leb-true 1 n both.0, leb-true n most_places both.1)

-- ---- the best matching

-- each way to give students a project of their lists, or none
abbrev all_ways : List (List ℕ) → (List (Option ℕ) → Bool) → Bool
all_ways [] test = test []
all_ways (list ∷ lists) test = all_ways lists (λ m. test (None ∷ m)) && list_all (λ p. all_ways lists (λ m. test (Some p ∷ m))) list

way : (lists : List (List ℕ)) (test : List (Option ℕ) → Bool) (m : List (Option ℕ)) → all_ways lists test ≡ true
    → length m ≡ length lists → ((s p : ℕ) → project_of m s ≡ Some p → IsOn (get_or lists s []) p) → test m ≡ true
way [] test [] h e on = h
way [] test (o ∷ m) h e on = absurd (omega arith)
way (list ∷ lists) test [] h e on = absurd (omega arith)
way (list ∷ lists) test (None ∷ m) h e on =
    way lists (λ x. test (None ∷ x)) m (and_parts (all_ways lists (λ x. test (None ∷ x)))
    (list_all (λ p. all_ways lists (λ x. test (Some p ∷ x))) list) h).0 (omega arith) (λ s. on (suc s))
way (list ∷ lists) test (Some q ∷ m) h e on =
    let others = (and_parts (all_ways lists (λ x. test (None ∷ x))) (list_all (λ p. all_ways lists (λ x. test (Some p ∷ x))) list) h).1 in
    way lists (λ x. test (Some q ∷ x)) m (entry (λ p. all_ways lists (λ x. test (Some p ∷ x))) list q others (on 0 q refl)) (omega arith)
    (λ s. on (suc s))

-- A project has too many students, or a student wants a project that has room or whose lecturer
-- ranks an assigned student lower.
abbrev goes_before : List ℕ → ℕ → ℕ → Bool
goes_before list a b = ltb (place list a) (place list b) && ltb (place list b) (length list)

abbrev improves : Spa → ℕ → ℕ → Option ℕ → Bool
improves i s u None = true
improves i s u (Some q) = goes_before (choices_of i s) u q

abbrev has_place : Spa → List (Option ℕ) → ℕ → Bool
has_place i m u = ltb (at_project m u) (capacity_of i u)

abbrev has_room : Spa → List (Option ℕ) → ℕ → Bool
has_room i m u = has_place i m u && ltb (at_lecturer i m (lecturer_of i u)) (limit_of i (lecturer_of i u))

abbrev yields : Spa → List (Option ℕ) → ℕ → ℕ → ℕ → Option ℕ → Bool
yields i m s u t None = false
yields i m s u t (Some p) = (eqb (lecturer_of i u) (lecturer_of i p) && goes_before (ranking_of i (lecturer_of i u)) s t)
    && (eqb u p || has_place i m u)

abbrev blocks : Spa → List (Option ℕ) → ℕ → ℕ → Bool
blocks i m s u = improves i s u (project_of m s) && (has_room i m u || some (λ t. yields i m s u t (project_of m t)) (length m))

abbrev is_over : Spa → List (Option ℕ) → ℕ → Bool
is_over i m p = ltb (capacity_of i p) (at_project m p)

abbrev has_over : Spa → List (Option ℕ) → ℕ → Bool
has_over i m l = ltb (limit_of i l) (at_lecturer i m l)

abbrev unstable : Spa → List (Option ℕ) → Bool
unstable i m = some (is_over i m) (length i.lecturers) || (some (has_over i m) (length i.limits) || some
    (λ s. list_any (blocks i m s) (choices_of i s)) (length i.choices))

is_before : (list : List ℕ) (a b : ℕ) → goes_before list a b ≡ true → IsBefore list a b
is_before list a b h = search (rules, and_parts, ltb-true)

module _ (i : Spa) (m : List (Option ℕ)) (stable : IsStable i m) where
  is_better : (s u : ℕ) (o : Option ℕ) → improves i s u o ≡ true → Improves i s u o
  is_better s u None h = tt
  is_better s u (Some q) h = is_before (choices_of i s) u q h

  no_yield : (s u t : ℕ) → Wants i m s u → (o : Option ℕ) → project_of m t ≡ o → yields i m s u t o ≡ true → ⊥
  no_yield s u t wants None e h = cc
  no_yield s u t wants (Some p) e h = search (rules, and_parts, blocked, eqb-true, is_before, or_cases, ltb-true)

  no_block : (s u : ℕ) → IsAcceptable i s u → blocks i m s u ≡ true → ⊥
  no_block s u on h =
      let both = and_parts (improves i s u (project_of m s))
      (has_room i m u || some (λ t. yields i m s u t (project_of m t)) (length m)) h in
      let wants : Wants i m s u = (on, is_better s u (project_of m s) both.0) in
      elim (or_cases (has_room i m u) (some (λ t. yields i m s u t (project_of m t)) (length m)) both.1) [
        | inl room ↦
            let free = and_parts (has_place i m u) (ltb (at_lecturer i m (lecturer_of i u)) (limit_of i (lecturer_of i u))) room in
            stable.unblocked s u A (
              wants,
              ltb-true (at_project m u) (capacity_of i u) free.0,
              ltb-true (at_lecturer i m (lecturer_of i u)) (limit_of i (lecturer_of i u)) free.1,
            )
        | inr later ↦ let one = some_at (λ t. yields i m s u t (project_of m t)) (length m) later in
            no_yield s u one.0 wants (project_of m one.0) refl one.1
      ]

  not_unstable : unstable i m ≡ true → ⊥
  not_unstable h = elim (or_cases (some (is_over i m) (length i.lecturers))
      (some (has_over i m) (length i.limits) || some (λ s. list_any (blocks i m s) (choices_of i s)) (length i.choices)) h) [
        | inl over ↦ let one = some_at (is_over i m) (length i.lecturers) over in
            omega (arith, ltb-true (capacity_of i one.0) (at_project m one.0) one.1, stable.matching.projects one.0)
        | inr rest ↦ elim (or_cases (some (has_over i m) (length i.limits))
            (some (λ s. list_any (blocks i m s) (choices_of i s)) (length i.choices)) rest) [
              | inl over ↦ let one = some_at (has_over i m) (length i.limits) over in
                  omega (arith, ltb-true (limit_of i one.0) (at_lecturer i m one.0) one.1, stable.matching.lecturers one.0)
              | inr pair ↦
                  let one = some_at (λ s. list_any (blocks i m s) (choices_of i s)) (length i.choices) pair in
                  let any = Any-from_list_any (blocks i m one.0) (choices_of i one.0) one.1 in
                  no_block one.0 any.1 (at_on (choices_of i one.0) any.0 any.1 any.2 any.3) any.4
            ]
      ]

-- ---- a stable matching

abbrev is_listed : Spa → ℕ → Option ℕ → Bool
is_listed i s None = true
is_listed i s (Some p) = ltb (place (choices_of i s) p) (length (choices_of i s))

abbrev ranks_before : Spa → ℕ → ℕ → (Option ℕ → Bool) → Option ℕ → ℕ → Bool
ranks_before i l s test o t = not (test o) || goes_before (ranking_of i l) t s

abbrev is_taken : Spa → List (Option ℕ) → ℕ → ℕ → Bool
is_taken i m s p = eqb (at_project m p) (capacity_of i p)
    && each (λ t. ranks_before i (lecturer_of i p) s (is_project p) (project_of m t) t) (length m)

abbrev is_busy : Spa → List (Option ℕ) → ℕ → ℕ → Bool
is_busy i m s l = eqb (at_lecturer i m l) (limit_of i l) && each (λ t. ranks_before i l s (is_lecturer i l) (project_of m t) t) (length m)

abbrev is_content : Spa → List (Option ℕ) → ℕ → ℕ → Bool
is_content i m s p = not (improves i s p (project_of m s)) || (is_taken i m s p || is_busy i m s (lecturer_of i p))

abbrev stable_tests : Spa → List (Option ℕ) → List Bool
stable_tests i m =
    eqb (length m) (length i.choices)
    ∷ each (λ s. is_listed i s (project_of m s)) (length m)
    ∷ each (λ p. ltb (at_project m p) (suc (capacity_of i p))) (length i.lecturers)
    ∷ each (λ l. ltb (at_lecturer i m l) (suc (limit_of i l))) (length i.rankings)
    ∷ each_entry (is_content i m) i.choices ∷ []

module _ (i : Spa) (law : IsRanked i) (m : List (Option ℕ)) (all : list_all (λ b. b) (stable_tests i m) ≡ true) where
  passed : (k : ℕ) → get_or (stable_tests i m) k true ≡ true
  passed = each_of (λ b. b) true (stable_tests i m) refl all

  listed : (s p : ℕ) → project_of m s ≡ Some p → IsAcceptable i s p
  listed s p e = by_own (project_of m s) e
      (each_at (λ t. is_listed i t (project_of m t)) (length m) s (passed 1) (student_in_range i m s p e))
    where
      by_own : (o : Option ℕ) → o ≡ Some p → is_listed i s o ≡ true → IsAcceptable i s p
      by_own None e h = absurd (cc)
      by_own (Some q) e h = let same : q ≡ p = cc in
          subst (IsAcceptable i s) same (ltb-true (place (choices_of i s) q) (length (choices_of i s)) h)

  -- nobody has an unknown project, or is with an unknown lecturer
  none_at : (p : ℕ) → length i.lecturers ≤ p → at_project m p ≡ 0
  none_at p past = count_by-none (is_project p) m
      (λ s. off_project p (project_of m s) (λ e. omega (arith, past, law.known s p (listed s p e))))

  none_with : (l : ℕ) → length i.rankings ≤ l → at_lecturer i m l ≡ 0
  none_with l past = count_by-none (is_lecturer i l) m (λ s. by_own s (project_of m s) refl)
    where
      by_own : (s : ℕ) (o : Option ℕ) → project_of m s ≡ o → is_lecturer i l o ≡ false
      by_own s None e = refl
      by_own s (Some q) e = ne_eqb (lecturer_of i q) l (λ same. omega (arith, past, same, law.offered q (law.known s q (listed s q e))))

  matching : IsMatching i m
  matching = record {
    students = eqb-true (length m) (length i.choices) (passed 0);
    acceptable = listed;
    projects = λ p. elim (cases_lt p (length i.lecturers)) [
      | inl low ↦ omega (
        arith,
        ltb-true (at_project m p) (suc (capacity_of i p))
            (each_at (λ q. ltb (at_project m q) (suc (capacity_of i q))) (length i.lecturers) p (passed 2) low),
      )
      | inr past ↦ omega (arith, none_at p past)
    ];
    lecturers = λ l. elim (cases_lt l (length i.rankings)) [
      | inl low ↦ omega (
        arith,
        ltb-true (at_lecturer i m l) (suc (limit_of i l))
            (each_at (λ h. ltb (at_lecturer i m h) (suc (limit_of i h))) (length i.rankings) l (passed 3) low),
      )
      | inr past ↦ omega (arith, none_with l past)
    ];
  }

  -- who passes the test is ranked before
  ranked_before : (l s t : ℕ) (test : Option ℕ → Bool) → each (λ x. ranks_before i l s test (project_of m x) x) (length m) ≡ true
      → t < length m → test (project_of m t) ≡ true → IsBefore (ranking_of i l) t s
  ranked_before l s t test h low on = elim
      (or_cases (not (test (project_of m t))) (goes_before (ranking_of i l) t s)
      (each_at (λ x. ranks_before i l s test (project_of m x) x) (length m) t h low)) [
        | inl not_so ↦ absurd (let wrong : not true ≡ true = rw on at not_so in cc)
        | inr before ↦ is_before (ranking_of i l) t s before
      ]

  reason : (s p : ℕ) → Wants i m s p → IsTaken i m p s ⊎ IsBusy i m (lecturer_of i p) s
  reason s p wants =
      let l : ℕ = lecturer_of i p in
      elim (or_cases (not (improves i s p (project_of m s))) (is_taken i m s p || is_busy i m s l)
      (entry_at (is_content i m) i.choices (passed 4) s p wants.0)) [
        | inl content ↦ absurd (let wrong : not true ≡ true = rw (improving s p (project_of m s) wants.1) at content in cc)
        | inr why ↦ elim (or_cases (is_taken i m s p) (is_busy i m s l) why) [
          | inl taken ↦
              let both = and_parts (eqb (at_project m p) (capacity_of i p))
              (each (λ t. ranks_before i l s (is_project p) (project_of m t) t) (length m)) taken in
              inl (record {
                full = eqb-true (at_project m p) (capacity_of i p) both.0;
                above = λ t at. ranked_before l s t (is_project p) both.1 (student_in_range i m t p at)
                    (is_project-at p (project_of m t) at);
              })
          | inr busy ↦
              let both = and_parts (eqb (at_lecturer i m l) (limit_of i l))
              (each (λ t. ranks_before i l s (is_lecturer i l) (project_of m t) t) (length m)) busy in
              inr (record {
                full = eqb-true (at_lecturer i m l) (limit_of i l) both.0;
                above = λ t own. ranked_before l s t (is_lecturer i l) both.1 (student_in_range i m t own.0 own.1)
                    (ap (is_lecturer i l) own.1 ∙ eq-eqb (lecturer_of i own.0) l own.2);
              })
        ]
      ]
    where
      improving : (s p : ℕ) (o : Option ℕ) → Improves i s p o → improves i s p o ≡ true
      improving s p None better = refl
      improving s p (Some q) better = search (rules, lt-ltb, better)

  pub stable_by : IsStable i m
  stable_by = stable_so i m matching reason

-- where each other way is unstable, or no better for anybody, a stable matching is the best one
abbrev as_good : Spa → ℕ → Option ℕ → Option ℕ → Bool
as_good i s mine None = true
as_good i s None (Some q) = false
as_good i s (Some p) (Some q) = eqb p q || goes_before (choices_of i s) p q

abbrev is_best : Spa → List (Option ℕ) → Bool
is_best i m =
    list_all (λ b. b) (stable_tests i m)
    && all_ways i.choices (λ n. each (λ s. as_good i s (project_of m s) (project_of n s)) (length i.choices) || unstable i n)

pub best_by : (i : Spa) → IsRanked i → (m : List (Option ℕ)) → is_best i m ≡ true → IsBest i m
best_by i law m all = record { stable = stable_by i law m both.0; best = best }
  where
    both : (list_all (λ b. b) (stable_tests i m) ≡ true)
        × (all_ways i.choices (λ n. each (λ s. as_good i s (project_of m s) (project_of n s)) (length i.choices) || unstable i n) ≡ true)
    both = and_parts (list_all (λ b. b) (stable_tests i m))
        (all_ways i.choices (λ n. each (λ s. as_good i s (project_of m s) (project_of n s)) (length i.choices) || unstable i n)) all

    so : (s : ℕ) (a b : Option ℕ) → as_good i s a b ≡ true → IsAsGood i s a b
    so s a None h = tt
    so s None (Some q) h = absurd (cc)
    so s (Some p) (Some q) h = elim (or_cases (eqb p q) (goes_before (choices_of i s) p q) h) [
      | inl same ↦ inl
          (eqb-true p q same)
      | inr before ↦ inr (is_before (choices_of i s) p q before)
    ]

    past : (n : List (Option ℕ)) → IsStable i n → (s : ℕ) → length i.choices ≤ s → IsAsGood i s (project_of m s) (project_of n s)
    past n other s out = let none : project_of n s ≡ None = get_or_past n s None (omega (arith, out, other.matching.students)) in rw none tt

    best : (n : List (Option ℕ)) → IsStable i n → (s : ℕ) → IsAsGood i s (project_of m s) (project_of n s)
    best n other s = elim (cases_lt s (length i.choices)) [
      | inr out ↦ past n other s out
      | inl low ↦ elim (or_cases (each (λ t. as_good i t (project_of m t) (project_of n t)) (length i.choices)) (unstable i n)
          (way i.choices (λ x. each (λ t. as_good i t (project_of m t) (project_of x t)) (length i.choices) || unstable i x) n both.1
          other.matching.students other.matching.acceptable)) [
            | inl good ↦ so s (project_of m s) (project_of n s)
                (each_at (λ t. as_good i t (project_of m t) (project_of n t)) (length i.choices) s good low)
            | inr not_so ↦ absurd (not_unstable i n other not_so)
          ]
    ]
