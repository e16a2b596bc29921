-- The method stops when the last who likes x better than the best matching loses what x gives.
use Rattle.spa_honest.proofs.Base.{◌≡◌, ◌⊎◌, inl, inr, ℕ, zero, suc, ◌<◌, ◌≤◌, Bool, true, false, List, length}
use Rattle.spa_honest.proofs.Base.{replicate, Option, Some, None, refl, sym, ◌∙◌, ap, subst, arith, cases_Bool}
use Rattle.spa_honest.proofs.Base.{cases_lt, cases_eq, Spa, place, project_of, choices_of, IsAcceptable, IsMatching}
use Rattle.spa_honest.proofs.Base.{IsAsGood, IsBest, place-injective, sum_below, IsRanked, best_at_end}
use Rattle.spa_honest.proofs.Base.{student_in_range, rules, ltb, ltb-true, ltb-false, as_good_as_stable}
use Rattle.spa_honest.proofs.Exists.{greatest, Passed, UnderWay, turns, Turned, turn_of, next_or_done}
use Rattle.spa_honest.proofs.Base.{cond, eqb, eq-eqb, ne_eqb}
use Rattle.spa_honest.proofs.Exists.{start, AreStops, Rested, rest}
use Rattle.spa_honest.proofs.Outside.{TurnsAway}

-- whether what s has is better than the other
abbrev pub better : Spa → ℕ → Option ℕ → Option ℕ → Bool
better i s None other = false
better i s (Some p) None = true
better i s (Some p) (Some q) = ltb (place (choices_of i s) p) (place (choices_of i s) q)

-- where it is not, the other is as good
pub not_better : (i : Spa) (s : ℕ) (mine other : Option ℕ) → ((p : ℕ) → mine ≡ Some p → IsAcceptable i s p)
    → ((q : ℕ) → other ≡ Some q → IsAcceptable i s q) → better i s mine other ≡ false → IsAsGood i s other mine
not_better i s None other on_mine on_other misses = tt
not_better i s (Some p) None on_mine on_other misses = absurd (cc)
not_better i s (Some p) (Some q) on_mine on_other misses = search (rules, place-injective, ltb-false)

-- and where it is, the other is not
pub better_not : (i : Spa) (s : ℕ) (mine other : Option ℕ) → better i s mine other ≡ true → IsAsGood i s other mine → ⊥
better_not i s None other meets good = cc
better_not i s (Some p) None meets good = good
better_not i s (Some p) (Some q) meets good = search (rules, ltb-true)

pub as_good_trans : (i : Spa) (s : ℕ) (a b c : Option ℕ) → IsAsGood i s a b → IsAsGood i s b c → IsAsGood i s a c
as_good_trans i s a b None ab bc = tt
as_good_trans i s a None (Some r) ab bc = absurd bc
as_good_trans i s None (Some q) (Some r) ab bc = absurd ab
as_good_trans i s (Some p) (Some q) (Some r) ab bc = search rules

-- the place of a project on the list of s
abbrev spot : Spa → ℕ → Option ℕ → ℕ
spot i s None = 0
spot i s (Some p) = place (choices_of i s) p

-- those who like x better than what the best matching gives, and who of them has not passed it
abbrev pub gains : Spa → List (Option ℕ) → List (Option ℕ) → ℕ → Bool
gains i best x s = better i s (project_of x s) (project_of best s)

abbrev Waits : Spa → List (Option ℕ) → List (Option ℕ) → (ℕ → ℕ) → ℕ → Type 0
Waits i best x c s = (gains i best x s ≡ true) × (c s ≤ spot i s (project_of x s))

-- ALL GO ON until nobody waits: the last who did is free
record Stopped (i : Spa) (best x : List (Option ℕ)) : Type 0 where
  pub after : List (Option ℕ)
  pub cursors : ℕ → ℕ
  pub state : UnderWay i after cursors
  pub passed : (s : ℕ) → gains i best x s ≡ true → spot i s (project_of x s) < cursors s
  pub last : (s : ℕ) × (gains i best x s ≡ true) × (project_of after s ≡ None)

module _ (i : Spa) (law : IsRanked i) (best : List (Option ℕ)) (is_best : IsBest i best) (x : List (Option ℕ))
    (there : IsMatching i x) where
  gains_some : (s : ℕ) (o : Option ℕ) → better i s o (project_of best s) ≡ true → (p : ℕ) × (o ≡ Some p)
  gains_some s None meets = absurd (cc)
  gains_some s (Some p) meets = (p, refl)

  waits : (c : ℕ → ℕ) (s : ℕ) → Waits i best x c s ⊎ (Waits i best x c s → ⊥)
  waits c s = elim (cases_Bool (gains i best x s)) [
    | inr misses ↦ inr (λ w. let wrong : true ≡ false = sym w.0 ∙ misses in cc)
    | inl meets ↦ elim (cases_lt (spot i s (project_of x s)) (c s)) [
      | inl passed ↦ inr (λ w. omega (arith, w.1))
      | inr ahead ↦ inl
          (meets, ahead)
    ]
  ]

  in_range : (s : ℕ) → gains i best x s ≡ true → s < length i.choices
  in_range s meets = let has = gains_some s (project_of x s) meets in omega (arith, student_in_range i x s has.0 has.1, there.students)

  -- at the end nobody waits
  none_waits : (m : List (Option ℕ)) (c : ℕ → ℕ) → UnderWay i m c
      → ((s p : ℕ) → project_of m s ≡ None → IsAcceptable i s p → Passed i c s p) → (s : ℕ) → Waits i best x c s → ⊥
  none_waits m c state done s wait = each (project_of m s) refl
    where
      stable : IsBest i m
      stable = best_at_end i m (Passed i c) state.holds done

      each : (o : Option ℕ) → project_of m s ≡ o → ⊥
      each None e =
          let has = gains_some s (project_of x s) wait.0 in
          omega (arith, (done s has.0 e (there.acceptable s has.0 has.1)).1, wait.1, ap (spot i s) has.1)
      each (Some q) e =
          let has = gains_some s (project_of x s) wait.0 in
          let p : ℕ = has.0 in
          let le : place (choices_of i s) q ≤ place (choices_of i s) p =
          omega (arith, state.at_cursor s q e, wait.1, ap (spot i s) has.1) in
          let q_on : IsAcceptable i s q = state.holds.matching.acceptable s q e in
          let p_on : IsAcceptable i s p = there.acceptable s p has.1 in
          let good : IsAsGood i s (Some q) (Some p) =
          elim (cases_eq (place (choices_of i s) q) (place (choices_of i s) p)) [
            | inl level ↦ inl
                (place-injective (choices_of i s) q p q_on level)
            | inr apart ↦ inr (omega arith, p_on)
          ] in
          better_not i s (project_of x s) (project_of best s) wait.0
          (rw has.1 (as_good_trans i s (project_of best s) (Some q) (Some p)
          (subst (λ o. IsAsGood i s (project_of best s) o) e (is_best.best m stable.stable s)) good))

  until : (fuel : ℕ) (m : List (Option ℕ)) (c : ℕ → ℕ) → UnderWay i m c → (s : ℕ) → Waits i best x c s
      → sum_below (turns i m c) (length i.choices) < fuel → Stopped i best x
  until zero m c state s wait enough = absurd (omega arith)
  until (suc fuel) m c state s wait enough = elim (next_or_done i m c (λ z. length (choices_of i z)) (λ z. omega arith)) [
    | inr done ↦ absurd (none_waits m c state (λ z p free on. (on, omega (arith, on, done z free))) s wait)
    | inl next ↦
        let one : Turned i m c next.0 = turn_of i law m c state next.0 next.1 next.2.0 next.2.1 in
        elim (greatest (Waits i best x one.cursors) (waits one.cursors) (λ z. 0) (length i.choices)) [
          | inl still ↦ until fuel one.after one.cursors one.state still.0 still.2 (omega (arith, one.fewer))
          | inr over ↦ record {
            after = one.after;
            cursors = one.cursors;
            state = one.state;
            passed = λ z meets. passed z meets one.cursors over;
            last = (
              s,
              wait.0,
              elim (one.moves s) [
                | inl same ↦ absurd
                    (omega (arith, same, wait.1, passed s wait.0 one.cursors over))
                | inr free ↦ free
              ],
            );
          }
        ]
  ]
    where
      passed : (z : ℕ) → gains i best x z ≡ true → (d : ℕ → ℕ)
          → ((z : ℕ) → z < length i.choices → Waits i best x d z → ⊥) → spot i z (project_of x z) < d z
      passed z meets d over = elim (cases_lt (spot i z (project_of x z)) (d z)) [
        | inl here ↦ here
        | inr ahead ↦ absurd
            (over z (in_range z meets) (meets, ahead))
      ]

  -- so there is a matching that turns all of them away and leaves one with nothing
  pub turned_away : (s : ℕ) → gains i best x s ≡ true → (y : List (Option ℕ)) × TurnsAway i (gains i best x) x y
  turned_away s meets =
      let one : Stopped i best x = until (suc (sum_below (turns i (replicate (length i.choices) None) (λ z. 0)) (length i.choices)))
      (replicate (length i.choices) None) (λ z. 0) (start i) s (meets, omega arith) (omega arith) in
      let z : ℕ = one.last.0 in
      let all : Rested i (stop z) one.cursors =
      rest i law (stop z) (stops z) (suc (sum_below (turns i one.after one.cursors) (length i.choices))) one.after one.cursors one.state
      (within one) (omega arith) in (
        all.after,
        record {
          there = there;
          here = all.state.holds.matching;
          away = λ t of.
              let has = gains_some t (project_of x t) of in (
                has.0,
                has.1,
                all.state.holds.spent t has.0
                    (there.acceptable t has.0 has.1, omega (arith, ap (spot i t) has.1, one.passed t of, all.onward t)),
              );
          no_worse = λ t out.
              let as_best : IsAsGood i t (project_of all.after t) (project_of best t) =
              as_good_as_stable i all.after (Passed i all.cursors) all.state.holds best is_best.stable t
              (λ p free on. (
                on,
                omega (
                  arith,
                  on,
                  all.done t free,
                  not_last z t (λ e. let wrong : true ≡ false = sym (subst (λ k. gains i best x k ≡ true) (sym e) one.last.1)
                      ∙ out in cc),
                ),
              )) in
              as_good_trans i t (project_of all.after t) (project_of best t) (project_of x t) as_best
              (not_better i t (project_of x t) (project_of best t) (λ p e. there.acceptable t p e)
              (λ q e. is_best.stable.matching.acceptable t q e) out);
          last = (z, one.last.1, nothing all.after z (λ q e. omega (arith, all.within z q e, stop_last z)));
        },
      )
    where
      -- the last one stops at once, the others at the ends of their lists
      stop : ℕ → ℕ → ℕ
      stop z t = cond (eqb t z) 0 (length (choices_of i t))

      stop_last : (z : ℕ) → stop z z ≡ 0
      stop_last z = rw (eq-eqb z z refl) refl

      not_last : (z t : ℕ) → (t ≡ z → ⊥) → stop z t ≡ length (choices_of i t)
      not_last z t other = rw (ne_eqb t z other) refl

      stops : (z : ℕ) → AreStops i (stop z)
      stops z t = elim (cases_eq t z) [
        | inl same ↦ omega (arith, ap (stop z) same, stop_last z)
        | inr other ↦ omega
            (arith, not_last z t other)
      ]

      within : (one : Stopped i best x) (t q : ℕ) → project_of one.after t ≡ Some q → one.cursors t < stop one.last.0 t
      within one t q e = elim (cases_eq t one.last.0) [
        | inl same ↦ absurd (let none : project_of one.after t ≡ None = ap (project_of one.after) same ∙ one.last.2 in cc)
        | inr other ↦ omega (arith, not_last one.last.0 t other, one.state.at_cursor t q e, one.state.holds.matching.acceptable t q e)
      ]

      nothing : (m : List (Option ℕ)) (z : ℕ) → ((q : ℕ) → project_of m z ≡ Some q → ⊥) → project_of m z ≡ None
      nothing m z off = by_own (project_of m z) refl
        where
          by_own : (o : Option ℕ) → project_of m z ≡ o → o ≡ None
          by_own None e = refl
          by_own (Some q) e = absurd (off q e)
