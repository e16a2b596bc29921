-- Pairs that are put together, one after the other.
use Rattle.spa_model.proofs.Base.{◌≡◌, ◌≢◌, inl, inr, ℕ, zero, suc, ◌+◌, ◌<◌, ◌≤◌, eqb, List, [], ◌∷◌, ◌++◌, map}
use Rattle.spa_model.proofs.Base.{length, take, set, get_or, Option, Some, None, refl, sym, ◌∙◌, ap, arith, All, Any}
use Rattle.spa_model.proofs.Base.{count_by, cases_lt, cases_Bool, eqb-true, get_or_default, get_or-take, length-map}
use Rattle.spa_model.proofs.Base.{length-take-le, length-set, get_or-set_same, get_or-set_other, take_more, take_all}
use Rattle.spa_model.proofs.Base.{count_by_more_no, Pair, NoSuchStudent, NotAcceptable, StudentTwice, ProjectOver}
use Rattle.spa_model.proofs.Base.{LecturerOver, Spa, IsLawful, IsDistinct, IsMatching, IsAcceptable, place, choices_of}
use Rattle.spa_model.proofs.Base.{lecturer_of, capacity_of, limit_of, project_of, is_project, is_lecturer, at_project}
use Rattle.spa_model.proofs.Base.{at_lecturer, student_in, project_in, lecturer_in, HasPairs, AreSound, AreAssigned}
use Rattle.spa_model.proofs.Base.{rules, sum_by_push}
use Rattle.std.proofs.lemmas.Option.{same_Some}
use Rattle.spa_model.proofs.Counts.{count_by-set, one_if}
use Rattle.spa_model.proofs.PairFaults.{number_at, good_pair, students_below, same_student, count_by-map}

-- one more
pub assigned_more : (n : ℕ) (students projects : List ℕ) (m : List (Option ℕ)) (j s p : ℕ) → IsDistinct students
    → j < length students → length students ≡ length projects → get_or students j 0 ≡ s → get_or projects j 0 ≡ p
    → s < n
    → AreAssigned n (take j students) (take j projects) m → AreAssigned n (take (j + 1) students) (take (j + 1) projects) (set m s (Some p))
assigned_more n students projects m j s p apart h size s_is p_is below so_far =
    let front : length (take j students) ≡ j = length-take-le j students (omega arith) in
    let more : length (take (j + 1) students) ≡ j + 1 = length-take-le (j + 1) students (omega arith) in
    record {
      count = length-set m s (Some p) ∙ so_far.count;
      each = λ k l. elim (cases_lt k j) [
        | inl before ↦
            let other : get_or students k 0 ≢ s = λ e. apart k j 0 before h (e ∙ sym s_is) in
            rw (
              get_or-take (j + 1) students k 0 (omega arith),
              get_or-take (j + 1) projects k 0 (omega arith),
              get_or-set_other m s (get_or students k 0) (Some p) None other,
            )
            (rw (get_or-take j students k 0 before, get_or-take j projects k 0 before) at (so_far.each k (omega arith)))
        | inr here ↦
            let same : k ≡ j = omega arith in
            rw (same, get_or-take (j + 1) students j 0 (omega arith), get_or-take (j + 1) projects j 0 (omega arith), s_is, p_is)
            (get_or-set_same m s (Some p) None (omega (arith, so_far.count)))
      ];
      no_other = λ t q e. grind (arith, same_Some, get_or-set_same, get_or-take, get_or-set_other);
      counted = λ test out.
          let changed : count_by test (set m s (Some p)) + one_if (test (get_or m s None))
          ≡ count_by test m + one_if (test (Some p)) = count_by-set test m s (Some p) (omega (arith, so_far.count)) in
          let nothing : one_if (test (get_or m s None)) ≡ 0 = ap (λ o. one_if (test o)) (unassigned (get_or m s None) refl)
          ∙ ap one_if out in
          let last : take (j + 1) projects ≡ take j projects ++ p ∷ [] = take_more projects j 0 (omega arith)
          ∙ ap (λ x. take j projects ++ x ∷ []) p_is in
          omega (
            arith,
            so_far.counted test out,
            ap (count_by (λ q. test (Some q))) last,
            sum_by_push (λ q. one_if (test (Some q))) (take j projects) p,
          );
    }
  where
    unassigned : (o : Option ℕ) → project_of m s ≡ o → o ≡ None
    unassigned None e = refl
    unassigned (Some q) e =
        let found = so_far.no_other s q e in
        let front : length (take j students) ≡ j = length-take-le j students (omega arith) in
        absurd (apart found.0 j 0 (omega (arith, found.1)) h
        (sym (get_or-take j students found.0 0 (omega (arith, found.1))) ∙ found.2 ∙ sym s_is))

-- pairs without a fault hold each student once
pub apart_pairs : (i : Spa) (lines : List Pair) (students : List ℕ) → IsLawful i → AreSound i lines
    → students ≡ map (student_in i) lines → IsDistinct students
apart_pairs i lines students lawful sound is a b d before h e =
    let long : length students ≡ length lines = ap length is ∙ length-map lines (student_in i) in
    let x : Pair = get_or lines b nobody in
    let here : get_or lines b x ≡ x = get_or_default lines b x nobody (omega arith) in
    let y : Pair = get_or lines a nobody in
    let there : get_or lines a y ≡ y = get_or_default lines a y nobody (omega arith) in
    let first : get_or students a d ≡ student_in i y = get_or_default students a d 0 (omega arith)
    ∙ number_at (student_in i) lines students a y is (omega arith) there in
    let second : get_or students b d ≡ student_in i x = get_or_default students b d 0 h
    ∙ number_at (student_in i) lines students b x is (omega arith) here in
    let known : student_in i x < length i.choices =
    rw (number_at (student_in i) lines students b x is (omega arith) here) at
    (students_below i lines students lawful (sound NoSuchStudent) is b 0 h) in
    let front : length (take b lines) ≡ b = length-take-le b lines (omega arith) in
    good_pair i lines StudentTwice (sound StudentTwice) b x (omega arith) here
    (a, y, omega arith, get_or-take b lines a y before ∙ there, same_student i x y lawful known (sym first ∙ e ∙ second))
  where
    nobody : Pair
    nobody = record { row = 0; student = []; project = [] }

pub known_pairs : (i : Spa) (lines : List Pair) (students : List ℕ) → IsLawful i → AreSound i lines
    → students ≡ map (student_in i) lines → All (λ s. s < length i.choices) students
known_pairs i lines students lawful sound is = students_below i lines students lawful (sound NoSuchStudent) is

-- where no pair goes over, nothing is over
within : (lines : List Pair) (number : Pair → ℕ) (limit : ℕ → ℕ) (q : ℕ)
    → ((n : ℕ) (x : Pair) → n < length lines → get_or lines n x ≡ x
    → limit (number x) < count_by (λ y. eqb (number y) (number x)) (take (n + 1) lines) → ⊥)
    → (n : ℕ) → n ≤ length lines → count_by (λ y. eqb (number y) q) (take n lines) ≤ limit q
within lines number limit q good zero h = omega arith
within lines number limit q good (suc n) h =
    let x : Pair = get_or lines n (record { row = 0; student = []; project = [] }) in
    let here : get_or lines n x ≡ x = get_or_default lines n x (record { row = 0; student = []; project = [] }) (omega arith) in
    let step : suc n ≡ n + 1 = omega arith in
    elim (cases_Bool (eqb (number x) q)) [
      | inl yes' ↦
          elim (cases_lt (limit q) (count_by (λ y. eqb (number y) q) (take (suc n) lines))) [
            | inl over ↦ absurd (good n x (omega arith) here (rw ((eqb-true (number x) q yes'), ← step) over))
            | inr fits ↦ fits
          ]
      | inr no' ↦
          let same : count_by (λ y. eqb (number y) q) (take (n + 1) lines)
          ≡ count_by (λ y. eqb (number y) q) (take n lines) =
          count_by_more_no (λ y. eqb (number y) q) lines n x (omega arith) (ap (λ y. eqb (number y) q) here ∙ no') in
          rw step (omega (arith, within lines number limit q good n (omega arith)))
    ]

module _ (i : Spa) (lines : List Pair) (students projects : List ℕ) (m : List (Option ℕ)) (lawful : IsLawful i) (sound : AreSound i lines)
    (students_are : students ≡ map (student_in i) lines) (projects_are : projects ≡ map (project_in i) lines)
    (put : AreAssigned (length i.choices) students projects m) where
  long : length students ≡ length lines
  long = ap length students_are ∙ length-map lines (student_in i)

  -- what stands for a pair
  stands : (j : ℕ) (x : Pair) → j < length lines → get_or lines j x ≡ x
      → project_of m (student_in i x) ≡ Some (project_in i x)
  stands j x h e =
      let p : get_or projects j 0 ≡ project_in i x = number_at (project_in i) lines projects j x projects_are h e in
      rw (← (number_at (student_in i) lines students j x students_are h e), ← p) (put.each j (omega (arith, long)))

  from_pair : (s p : ℕ) → project_of m s ≡ Some p → Any (λ x. (student_in i x ≡ s) × (project_in i x ≡ p)) lines
  from_pair s p e =
      let found = put.no_other s p e in
      let below : found.0 < length lines = omega (arith, long, found.1) in
      let x : Pair = get_or lines found.0 (record { row = 0; student = []; project = [] }) in
      let here : get_or lines found.0 x ≡ x = get_or_default lines found.0 x (record { row = 0; student = []; project = [] }) below in (
        found.0,
        x,
        below,
        here,
        (
          sym (number_at (student_in i) lines students found.0 x students_are below here)
              ∙ found.2,
          sym (number_at (project_in i) lines projects found.0 x projects_are below here) ∙ found.3,
        ),
      )

  -- the pairs are the matching's
  pub has_pairs : HasPairs i lines m
  has_pairs = record {
    students = put.count;
    each = λ j d h. stands j (get_or lines j d) h (get_or_default lines j (get_or lines j d) d h);
    no_other = from_pair;
  }

  at_most : (p : ℕ) → at_project m p ≤ capacity_of i p
  at_most p =
      let count : at_project m p ≡ count_by (λ q. eqb q p) projects = put.counted (is_project p) refl in
      let pairs : count_by (λ q. eqb q p) projects
      ≡ count_by (λ y. eqb (project_in i y) p) lines = ap (count_by (λ q. eqb q p)) projects_are
      ∙ count_by-map (λ q. eqb q p) (project_in i) lines in
      let fits : count_by (λ y. eqb (project_in i y) p) (take (length lines) lines) ≤ capacity_of i p =
      within lines (project_in i) (capacity_of i) p (good_pair i lines ProjectOver (sound ProjectOver)) (length lines) (omega arith) in
      omega (arith, ap (count_by (λ y. eqb (project_in i y) p)) (take_all (length lines) lines (omega arith)))

  with_most : (l : ℕ) → at_lecturer i m l ≤ limit_of i l
  with_most l =
      let count : at_lecturer i m l ≡ count_by (λ q. eqb (lecturer_of i q) l) projects = put.counted (is_lecturer i l) refl in
      let pairs : count_by (λ q. eqb (lecturer_of i q) l) projects
      ≡ count_by (λ y. eqb (lecturer_in i y) l) lines = ap (count_by (λ q. eqb (lecturer_of i q) l)) projects_are
      ∙ count_by-map (λ q. eqb (lecturer_of i q) l) (project_in i) lines in
      let fits : count_by (λ y. eqb (lecturer_in i y) l) (take (length lines) lines) ≤ limit_of i l =
      within lines (lecturer_in i) (limit_of i) l (good_pair i lines LecturerOver (sound LecturerOver)) (length lines) (omega arith) in
      omega (arith, ap (count_by (λ y. eqb (lecturer_in i y) l)) (take_all (length lines) lines (omega arith)))

  listed : (s p : ℕ) → project_of m s ≡ Some p → IsAcceptable i s p
  listed s p e = elim (cases_lt (place (choices_of i s) p) (length (choices_of i s))) [
    | inl on ↦ on
    | inr off ↦
        let found = from_pair s p e in
        absurd (good_pair i lines NotAcceptable (sound NotAcceptable) found.0 found.1 found.2 found.3
        (λ on. omega (arith, rw (found.4.0, found.4.1) at on)))
  ]

  -- they are a matching
  pub is_matching : IsMatching i m
  is_matching = search (rules, listed, at_most, with_most)
