-- Where lists of some students are cut at the end, nobody else gets anything worse: proposals stop at
-- the cuts.
use Rattle.spa_honest.proofs.Base.{◌≢◌, ◌≤◌, ap, subst, length-take, IsCut}
use Rattle.spa_honest.proofs.Base.{◌≡◌, inl, inr, ℕ, ◌<◌, List, length, Option, Some, None, refl}
use Rattle.spa_honest.proofs.Base.{sym, ◌∙◌, arith, Letter, A, B, C, Spa, place, at_project, at_lecturer}
use Rattle.spa_honest.proofs.Base.{project_of, choices_of, lecturer_of, ranking_of, capacity_of, limit_of, IsBefore}
use Rattle.spa_honest.proofs.Base.{IsOn, IsAcceptable, IsAsGood, Improves, Wants, Blocks, IsMatching, IsStable, IsBest}
use Rattle.spa_honest.proofs.Base.{IsRanked, IsSpent, rank_of, DifferInLists, as_good_as_stable}
use Rattle.spa_honest.proofs.Base.{blocks_wants}
use Rattle.spa_honest.proofs.Exists.{Passed, Rested, from_start}
use Rattle.spa_honest.proofs.Cuts.{take_on, on_take}
use Rattle.spa_honest.proofs.Carry.{same_lecturer, same_capacity, same_limit, same_count}
use Rattle.spa_honest.proofs.Last.{as_good_trans}

-- what is as good on one list is so on the same list
pub as_good_alike : (i j : Spa) (t : ℕ) → choices_of j t ≡ choices_of i t → (a b : Option ℕ) → IsAsGood j t a b
    → IsAsGood i t a b
as_good_alike i j t same a None good = tt
as_good_alike i j t same None (Some q) good = absurd good
as_good_alike i j t same (Some p) (Some q) (inl here) = inl here
as_good_alike i j t same (Some p) (Some q) (inr before) = inr (rw same at before)

-- ---- PROPOSALS IN i THAT STOP at the ends of the lists in j

-- each list in j is the one in i, or cut
abbrev pub AreCut : Spa → Spa → Type 0
AreCut i j = (s : ℕ) → IsCut (choices_of i s) (choices_of j s)

-- what stands on a list in j stands on that in i, at the same place
same_place : (i j : Spa) → AreCut i j → (s p : ℕ) → IsAcceptable j s p
    → (place (choices_of j s) p ≡ place (choices_of i s) p) × IsAcceptable i s p
same_place i j cut s p on =
    let here = take_on (cut s).0 (choices_of i s) p (rw (cut s).1 at on) in
    (ap (λ list. place list p) (cut s).1 ∙ here.0, here.2)

-- and what stands on that in i, before the end of the one in j
stands_too : (i j : Spa) → AreCut i j → (s p : ℕ) → IsAcceptable i s p
    → place (choices_of i s) p < length (choices_of j s) → IsAcceptable j s p
stands_too i j cut s p on low =
    let short : length (choices_of j s) ≤ (cut s).0 = omega (arith, ap length (cut s).1, length-take (cut s).0 (choices_of i s)) in
    subst (λ list. IsOn list p) (sym (cut s).1) (on_take (cut s).0 (choices_of i s) p (omega (arith, low, short)) on)

no_longer : (i j : Spa) → AreCut i j → (s : ℕ) → length (choices_of j s) ≤ length (choices_of i s)
no_longer i j cut s = omega (arith, ap length (cut s).1, length-take (cut s).0 (choices_of i s))

-- the matching at that end is stable in j
module _ (i j : Spa) (May : ℕ → Type 0) (law : IsRanked i) (differ : DifferInLists i j May) (cut : AreCut i j)
    (end : Rested i (λ s. length (choices_of j s)) (λ s. 0)) where
  fits : IsMatching j end.after
  fits = record {
    students = end.state.holds.matching.students ∙ sym differ.students;
    acceptable = λ t q e. stands_too i j cut t q (end.state.holds.matching.acceptable t q e)
        (omega (arith, end.within t q e, end.state.at_cursor t q e));
    projects = λ p. omega (arith, end.state.holds.matching.projects p, same_capacity i j May end.after differ p);
    lecturers = λ l. omega (
      arith,
      end.state.holds.matching.lecturers l,
      same_count i j May end.after differ l,
      same_limit i j May end.after differ l,
    );
  }

  -- who wants a project there has passed it
  spent : (t u : ℕ) → Wants j end.after t u → IsAcceptable i t u × IsSpent i end.after t u
  spent t u w = let here = same_place i j cut t u w.0 in (here.1, end.state.holds.spent t u (passed here (project_of end.after t) refl w.1))
    where
      passed : (place (choices_of j t) u ≡ place (choices_of i t) u) × IsAcceptable i t u → (o : Option ℕ)
          → project_of end.after t ≡ o → Improves j t u o → Passed i end.cursors t u
      passed here None e better = (here.1, omega (arith, here.0, w.0, end.done t e))
      passed here (Some q) e better =
          let there = same_place i j cut t q (fits.acceptable t q e) in
          end.state.holds.first t u q e (omega (arith, better.0, here.0, there.0), there.1)

  module _ (t u : ℕ) (wants : Wants j end.after t u) where
    -- who stands before t still does
    not_after : (z q : ℕ) → project_of end.after z ≡ Some q
        → rank_of i (lecturer_of i u) z < rank_of i (lecturer_of i u) t → IsBefore (ranking_of j (lecturer_of j u)) t z
        → ⊥
    not_after z q at less after =
        let here : IsBefore (ranking_of j (lecturer_of i u)) t z = rw (same_lecturer i j May end.after differ u) at after in
        let before = differ.orders (lecturer_of i u) z t here.1 (omega (arith, here.0, here.1))
        (less, law.ranked t u (spent t u wants).0) in
        omega (arith, before.0, here.0)

    full_p : at_project end.after u ≡ capacity_of i u → at_project end.after u < capacity_of j u → ⊥
    full_p full room = omega (arith, full, room, same_capacity i j May end.after differ u)

    full_l : at_lecturer i end.after (lecturer_of i u) ≡ limit_of i (lecturer_of i u)
        → at_lecturer j end.after (lecturer_of j u) < limit_of j (lecturer_of j u) → ⊥
    full_l full room =
        let here : at_lecturer j end.after (lecturer_of i u) < limit_of j (lecturer_of i u) =
        rw (same_lecturer i j May end.after differ u) at room in
        omega (
          arith,
          full,
          here,
          same_count i j May end.after differ (lecturer_of i u),
          same_limit i j May end.after differ (lecturer_of i u),
        )

    own : (q : ℕ) → lecturer_of j q ≡ lecturer_of j u → lecturer_of i q ≡ lecturer_of i u
    own q e = sym (same_lecturer i j May end.after differ q) ∙ e ∙ same_lecturer i j May end.after differ u

    unblocked : IsSpent i end.after t u → (k : Letter) → Blocks j end.after t u k → ⊥
    unblocked (inr project) A b = full_p project.full b.1
    unblocked (inr project) B b = full_p project.full b.1
    unblocked (inr project) C b = not_after b.2.0 u b.2.1 (project.before b.2.0 b.2.1) b.2.2
    unblocked (inl lecturer) A b = full_l lecturer.full b.2
    unblocked (inl lecturer) B b = elim b.3 [
      | inl with' ↦ omega (arith, lecturer.before t with'.0 with'.1 (own with'.0 with'.2))
      | inr worse ↦ not_after worse.0 worse.1.0 worse.1.1 (lecturer.before worse.0 worse.1.0 worse.1.1 (own worse.1.0 worse.1.2)) worse.2
    ]
    unblocked (inl lecturer) C b = not_after b.2.0 u b.2.1 (lecturer.before b.2.0 u b.2.1 refl) b.2.2

  pub stable_at_end : IsStable j end.after
  stable_at_end = record {
    matching = fits;
    unblocked = λ t u k b. let wants = blocks_wants j end.after t u k b in unblocked t u wants (spent t u wants).1 k b;
  }

-- WHO KEEPS THE OWN LIST GETS NOTHING WORSE
pub shorter_never_harm : (i j : Spa) (m n : List (Option ℕ)) (t : ℕ) → IsRanked i → DifferInLists i j (λ s. s ≢ t)
    → ((s : ℕ) → IsCut (choices_of i s) (choices_of j s)) → IsStable i m → IsBest j n
    → IsAsGood i t (project_of n t) (project_of m t)
shorter_never_harm i j m n t law differ cut stable best =
    let end : Rested i (λ s. length (choices_of j s)) (λ s. 0) = from_start i law (λ s. length (choices_of j s)) (no_longer i j cut) in
    let same : choices_of j t ≡ choices_of i t = differ.others t (λ other. other refl) in
    as_good_trans i t (project_of n t) (project_of end.after t) (project_of m t)
    (as_good_alike i j t same (project_of n t) (project_of end.after t)
    (best.best end.after (stable_at_end i j (λ s. s ≢ t) law differ cut end) t))
    (as_good_as_stable i end.after (Passed i end.cursors) end.state.holds m stable t
    (λ p free on. (on, omega (arith, on, end.done t free, ap length same))))
