-- In any two stable matchings the same students have a project, and each lecturer has as many; so
-- has each project of a lecturer with room.
use Rattle.spa_honest.proofs.Base.{◌≡◌, ◌⊎◌, inl, inr, ℕ, zero, suc, ◌+◌, ◌<◌, ◌≤◌, Bool, true, false, eqb, List, []}
use Rattle.spa_honest.proofs.Base.{◌∷◌, length, Option, Some, None, refl, sym, ◌∙◌, ap, subst, arith, count_by}
use Rattle.spa_honest.proofs.Base.{eqb-true, eq-eqb, ne_eqb, cases_Bool, true_from_ne_false, cases_lt, A, Spa}
use Rattle.spa_honest.proofs.Base.{is_lecturer, at_project, at_lecturer, project_of, lecturer_of, IsAcceptable}
use Rattle.spa_honest.proofs.Base.{IsAsGood, Wants, IsStable, IsBest, one_if, count_by-cons, sum_below, sum_below-lt}
use Rattle.spa_honest.proofs.Base.{IsRanked, student_in_range, count_by-le, sum_below-le, sum_below-add, sum_below-same}
use Rattle.spa_honest.proofs.Base.{sum_below-zero, sum_below-one, share, at_lecturer-sum, count_by-lt, no_more}
use Rattle.spa_honest.proofs.Base.{AssignTheSame, HasRoom, cond, limit_of, is_project, is_project-at, project_from_test, ◌↔◌}
use Rattle.spa_model.proofs.Counts.{off_project}
use Rattle.spa_honest.proofs.Exists.{has_project, greatest, best_of}

-- who has a project
abbrev pub has_one : Option ℕ → Bool
has_one None = false
has_one (Some q) = true

-- one student adds to one lecturer
one_lecturer : (i : Spa) (n : ℕ) (o : Option ℕ) → ((q : ℕ) → o ≡ Some q → lecturer_of i q < n)
    → sum_below (λ l. one_if (is_lecturer i l o)) n ≡ one_if (has_one o)
one_lecturer i n None h = sum_below-zero (λ l. 0) n (λ k _. refl)
one_lecturer i n (Some q) h =
    sum_below-one (λ l. one_if (eqb (lecturer_of i q) l)) n (lecturer_of i q)
    (λ k other. ap one_if (ne_eqb (lecturer_of i q) k (λ e. other (sym e)))) (h q refl)
    ∙ ap one_if (eq-eqb (lecturer_of i q) (lecturer_of i q) refl)

-- lecturers together have whoever has a project
pub all_lecturers : (i : Spa) (n : ℕ) (m : List (Option ℕ))
    → ((s q : ℕ) → project_of m s ≡ Some q → lecturer_of i q < n) → count_by has_one m ≡ sum_below (at_lecturer i m) n
all_lecturers i n [] h = sym (sum_below-zero (at_lecturer i []) n (λ k _. refl))
all_lecturers i n (o ∷ m) h =
    let first : ℕ → ℕ = λ l. one_if (is_lecturer i l o) in
    let split : sum_below (at_lecturer i (o ∷ m)) n ≡ sum_below first n + sum_below (at_lecturer i m) n =
    sum_below-same (at_lecturer i (o ∷ m)) (λ l. first l + at_lecturer i m l) n (λ l. count_by-cons (is_lecturer i l) o m)
    ∙ sum_below-add first (at_lecturer i m) n in
    omega (arith, split, one_lecturer i n o (h 0), all_lecturers i n m (λ s. h (suc s)), count_by-cons has_one o m)

-- a sum that is greater has a term that is greater
pub greater_term : (f g : ℕ → ℕ) (n : ℕ) → sum_below g n < sum_below f n → (k : ℕ) × (k < n) × (g k < f k)
greater_term f g zero h = absurd (omega arith)
greater_term f g (suc n) h = elim (cases_lt (g n) (f n)) [
  | inl here ↦ (n, omega arith, here)
  | inr least ↦ let before = greater_term f g n (omega arith) in (before.0, omega (arith, before.1), before.2)
]

-- where m has more with a lecturer, by what is allowed for each project, it has so at a project
pub more_over : (i : Spa) (l : ℕ) (m n : List (Option ℕ)) (extra : ℕ → ℕ)
    → ((s q : ℕ) → project_of m s ≡ Some q → q < length i.lecturers)
    → ((s q : ℕ) → project_of n s ≡ Some q → q < length i.lecturers)
    → at_lecturer i n l + sum_below extra (length i.lecturers) < at_lecturer i m l
    → (u : ℕ) × (lecturer_of i u ≡ l) × (at_project n u + extra u < at_project m u)
more_over i l m n extra known_m known_n more =
    let count : ℕ = length i.lecturers in
    let term = greater_term (share i m l) (λ u. share i n l u + extra u) count
    (omega (
      arith,
      more,
      at_lecturer-sum i l count m known_m,
      at_lecturer-sum i l count n known_n,
      sum_below-add (share i n l) extra count,
    )) in
    elim (cases_Bool (eqb (lecturer_of i term.0) l)) [
      | inl own ↦ (term.0, eqb-true (lecturer_of i term.0) l own, rw own at term.2)
      | inr other ↦ absurd (let less : 0 + extra term.0 < 0 = rw other at term.2 in omega arith)
    ]

-- where m has more with a lecturer, it has more at a project of the lecturer
pub more_at : (i : Spa) (l : ℕ) (m n : List (Option ℕ)) → ((s q : ℕ) → project_of m s ≡ Some q → q < length i.lecturers)
    → ((s q : ℕ) → project_of n s ≡ Some q → q < length i.lecturers) → at_lecturer i n l < at_lecturer i m l
    → (u : ℕ) × (lecturer_of i u ≡ l) × (at_project n u < at_project m u)
more_at i l m n known_m known_n more =
    let at = more_over i l m n (λ u. 0) known_m known_n (omega (arith, more, sum_below-zero (λ u. 0) (length i.lecturers) (λ k _. refl))) in
    (at.0, at.1, omega (arith, at.2))

-- where m has more at a project, some student is there in m alone
pub one_there : (i : Spa) (m n : List (Option ℕ)) (u : ℕ) → length m ≡ length n → at_project n u < at_project m u
    → (s : ℕ) × (project_of m s ≡ Some u) × (project_of n s ≡ Some u → ⊥)
one_there i m n u same more =
    elim (greatest (λ s. (project_of m s ≡ Some u) × (project_of n s ≡ Some u → ⊥)) test (λ s. 0) (length m)) [
      | inl one ↦ (one.0, one.2.0, one.2.1)
      | inr none ↦ absurd (omega (
        arith,
        no_more m n u same
            (λ s at. elim (has_project u (project_of n s)) [
              | inl both ↦ both
              | inr alone ↦ absurd
                  (none s (student_in_range i m s u at) (at, alone))
            ]),
      ))
    ]
  where
    test : (s : ℕ)
        → ((project_of m s ≡ Some u) × (project_of n s ≡ Some u → ⊥)) ⊎ ((project_of m s ≡ Some u) × (project_of n s ≡ Some u → ⊥) → ⊥)
    test s = grind (arith, has_project)

-- who is elsewhere in n wants the project of the best matching
pub wants_best : (i : Spa) (n : List (Option ℕ)) (s u : ℕ) → IsAcceptable i s u → (project_of n s ≡ Some u → ⊥)
    → (o : Option ℕ) → project_of n s ≡ o → IsAsGood i s (Some u) o → Wants i n s u
wants_best i n s u on other None e good = (on, rw e tt)
wants_best i n s u on other (Some q) e (inl same) = absurd (other (e ∙ ap Some (sym same)))
wants_best i n s u on other (Some q) e (inr before) = (on, rw e before)

-- above all lecturers of projects, and above l
abbrev bound : Spa → ℕ → ℕ
bound i l = suc (length i.rankings + l)

module _ (i : Spa) (law : IsRanked i) (m n : List (Option ℕ)) (best : IsBest i m) (stable : IsStable i n) where
  same_length : length m ≡ length n
  same_length = best.stable.matching.students ∙ sym stable.matching.students

  -- where a project and its lecturer have room, who has it in the best matching has it
  stays : (s u : ℕ) → project_of m s ≡ Some u → HasRoom i n u → project_of n s ≡ Some u
  stays s u has room = elim (has_project u (project_of n s)) [
    | inl there ↦ there
    | inr apart ↦
        let good : IsAsGood i s (Some u) (project_of n s) = subst (λ o. IsAsGood i s o (project_of n s)) has (best.best n stable s) in
        absurd (stable.unblocked s u A (
          wants_best i n s u (best.stable.matching.acceptable s u has) apart (project_of n s) refl good,
          room.0,
          room.1,
        ))
  ]

  -- of a lecturer with room, no project has more in the best matching
  no_more_there : (u : ℕ) → at_lecturer i n (lecturer_of i u) < limit_of i (lecturer_of i u)
      → at_project m u ≤ at_project n u
  no_more_there u room = elim (cases_lt (at_project n u) (at_project m u)) [
    | inr least ↦ least
    | inl more ↦
        let one = one_there i m n u same_length more in
        absurd (one.2 (stays one.0 u one.1 (omega (arith, more, best.stable.matching.projects u), room)))
  ]

  -- no lecturer has more in the best matching
  no_more_with : (l : ℕ) → at_lecturer i m l ≤ at_lecturer i n l
  no_more_with l = elim (cases_lt (at_lecturer i n l) (at_lecturer i m l)) [
    | inr least ↦ least
    | inl more ↦
        let here = more_at i l m n (λ s q e. law.known s q (best.stable.matching.acceptable s q e))
        (λ s q e. law.known s q (stable.matching.acceptable s q e)) more in
        absurd (omega (arith, here.2, no_more_there here.0 (rw here.1 (omega (arith, more, best.stable.matching.lecturers l)))))
  ]

  -- whoever has a project has one in the best matching
  has_best : (s : ℕ) → has_one (project_of n s) ≡ true → has_one (project_of m s) ≡ true
  has_best s = each (project_of m s) (project_of n s) (best.best n stable s)
    where
      each : (mine other : Option ℕ) → IsAsGood i s mine other → has_one other ≡ true → has_one mine ≡ true
      each (Some p) other good on = refl
      each None (Some q) good on = absurd good
      each None None good on = on

  all_m : (l : ℕ) → count_by has_one m ≡ sum_below (at_lecturer i m) (bound i l)
  all_m l = all_lecturers i (bound i l) m (λ s q e. omega (arith, law.offered q (law.known s q (best.stable.matching.acceptable s q e))))

  all_n : (l : ℕ) → count_by has_one n ≡ sum_below (at_lecturer i n) (bound i l)
  all_n l = all_lecturers i (bound i l) n (λ s q e. omega (arith, law.offered q (law.known s q (stable.matching.acceptable s q e))))

  pub as_many : (l : ℕ) → at_lecturer i m l ≡ at_lecturer i n l
  as_many l = elim (cases_lt (at_lecturer i m l) (at_lecturer i n l)) [
    | inr most ↦ omega (arith, no_more_with l)
    | inl less ↦ absurd (omega (
      arith,
      all_m l,
      all_n l,
      count_by-le has_one n m (sym same_length) has_best,
      sum_below-lt (at_lecturer i m) (at_lecturer i n) (bound i l) l no_more_with (omega arith) (omega arith),
    ))
  ]

  -- whoever has one in the best matching has a project
  pub has_any : (s : ℕ) → has_one (project_of m s) ≡ true → has_one (project_of n s) ≡ true
  has_any s on = true_from_ne_false (has_one (project_of n s)) (λ e. omega (
    arith,
    all_m 0,
    all_n 0,
    count_by-lt has_one n m s (sym same_length) has_best (in_range (project_of m s) refl on) e on,
    sum_below-le (at_lecturer i m) (at_lecturer i n) (bound i 0) no_more_with,
  ))
    where
      in_range : (o : Option ℕ) → project_of m s ≡ o → has_one o ≡ true → s < length m
      in_range None e h = absurd (cc)
      in_range (Some q) e h = student_in_range i m s q e

  -- nor fewer
  pub as_many_there : (u : ℕ) → at_lecturer i n (lecturer_of i u) < limit_of i (lecturer_of i u)
      → at_project m u ≡ at_project n u
  as_many_there u room = elim (cases_lt (at_project m u) (at_project n u)) [
    | inr most ↦ omega (arith, most, no_more_there u room)
    | inl less ↦
        let l : ℕ = lecturer_of i u in
        let count : ℕ = length i.lecturers in
        let one = one_there i n m u (sym same_length) less in
        let fewer = sum_below-lt (share i m l) (share i n l) count u
        (λ p. by_own p (eqb (lecturer_of i p) l) (eqb-true (lecturer_of i p) l))
        (law.known one.0 u (stable.matching.acceptable one.0 u one.1)) (rw (eq-eqb l l refl) (omega (arith, less))) in
        absurd (omega (
          arith,
          fewer,
          as_many l,
          at_lecturer-sum i l count m (λ s q e. law.known s q (best.stable.matching.acceptable s q e)),
          at_lecturer-sum i l count n (λ s q e. law.known s q (stable.matching.acceptable s q e)),
        ))
  ]
    where
      by_own : (p : ℕ) (b : Bool) → (b ≡ true → lecturer_of i p ≡ lecturer_of i u)
          → cond b (at_project m p) 0 ≤ cond b (at_project n p) 0
      by_own p true own = no_more_there p (rw (own refl) room)
      by_own p false own = omega arith

  -- and where a project has room too, nobody else has it
  pub comes : (s u : ℕ) → HasRoom i n u → project_of n s ≡ Some u → project_of m s ≡ Some u
  comes s u room has = elim (has_project u (project_of m s)) [
    | inl there ↦ there
    | inr apart ↦ absurd (omega (
      arith,
      as_many_there u room.1,
      count_by-lt (is_project u) m n s same_length
          (λ t on. is_project-at u (project_of n t) (stays t u (project_from_test u (project_of m t) on) room))
          (student_in_range i n s u has) (off_project u (project_of m s) apart) (is_project-at u (project_of n s) has),
    ))
  ]

  pub both_ways : (s u : ℕ) → HasRoom i n u → project_of m s ≡ Some u ↔ project_of n s ≡ Some u
  both_ways s u room = (λ has. stays s u has room, comes s u room)

  pub room_too : (u : ℕ) → HasRoom i n u → HasRoom i m u
  room_too u room = (omega (arith, room.0, as_many_there u room.1), omega (arith, room.1, as_many (lecturer_of i u)))

  pub room_back : (u : ℕ) → HasRoom i m u → HasRoom i n u
  room_back u room =
      let with_l : at_lecturer i n (lecturer_of i u) < limit_of i (lecturer_of i u) = omega (arith, room.1, as_many (lecturer_of i u)) in
      (omega (arith, room.0, as_many_there u with_l), with_l)

-- ANY TWO STABLE MATCHINGS ASSIGN THE SAME
pub same_assigned : (i : Spa) → IsRanked i → (m n : List (Option ℕ)) → IsStable i m → IsStable i n → AssignTheSame i m n
same_assigned i law m n stable_m stable_n =
    let one = best_of i law in
    let to : (a b : List (Option ℕ)) → IsStable i a → IsStable i b → (s : ℕ) → has_one (project_of b s) ≡ true
    → has_one (project_of a s) ≡ true =
    λ a b sa sb s on. has_any i law one.0 a one.1 sa s (has_best i law one.0 b one.1 sb s on) in
    let counts : (l : ℕ) → at_lecturer i m l ≡ at_lecturer i n l = λ l. sym (as_many i law one.0 m one.1 stable_m l)
    ∙ as_many i law one.0 n one.1 stable_n l in
    record {
      students = λ s. (
        none (project_of m s) (project_of n s) (to m n stable_m stable_n s),
        none (project_of n s) (project_of m s) (to n m stable_n stable_m s),
      );
      lecturers = counts;
      projects = λ p room. sym (as_many_there i law one.0 m one.1 stable_m p room)
          ∙ as_many_there i law one.0 n one.1 stable_n p (omega (arith, room, counts (lecturer_of i p)));
      room = λ s p room.
          let here = both_ways i law one.0 m one.1 stable_m s p room in
          let there = both_ways i law one.0 n one.1 stable_n s p
          (room_back i law one.0 n one.1 stable_n p (room_too i law one.0 m one.1 stable_m p room)) in
          (λ has. there.0 (here.1 has), λ has. here.0 (there.1 has));
    }
  where
    none : (a b : Option ℕ) → (has_one b ≡ true → has_one a ≡ true) → a ≡ None → b ≡ None
    none a None h e = refl
    none None (Some q) h e = absurd (let wrong = h refl in cc)
    none (Some p) (Some q) h e = absurd (cc)
