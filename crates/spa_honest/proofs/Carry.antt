-- A stable matching of one instance in another that differs in some lists.
use Rattle.spa_honest.proofs.Base.{◌≡◌, ℕ, List, get_or, Option, Some, None, refl, sym, ◌∙◌, ap, arith, count_by}
use Rattle.spa_honest.proofs.Base.{Letter, A, B, C, Spa, is_lecturer, at_lecturer, project_of, choices_of, lecturer_of}
use Rattle.spa_honest.proofs.Base.{ranking_of, capacity_of, limit_of, IsBefore, Improves, Wants, Blocks, IsStable}
use Rattle.spa_honest.proofs.Base.{IsRanked, DifferInLists, rules}

module _ (i j : Spa) (May : ℕ → Type 0) (m : List (Option ℕ)) (differ : DifferInLists i j May) where
  pub same_lecturer : (p : ℕ) → lecturer_of j p ≡ lecturer_of i p
  same_lecturer p = ap (λ list. get_or list p 0) differ.lecturers

  pub same_capacity : (p : ℕ) → capacity_of j p ≡ capacity_of i p
  same_capacity p = ap (λ list. get_or list p 0) differ.capacities

  pub same_limit : (l : ℕ) → limit_of j l ≡ limit_of i l
  same_limit l = ap (λ list. get_or list l 0) differ.limits

  pub same_count : (l : ℕ) → at_lecturer j m l ≡ at_lecturer i m l
  same_count l = ap (λ list. count_by (is_lecturer (record i { lecturers = list }) l) m) differ.lecturers

  -- whose list is the same wants the same
  pub wanted_too : (t u : ℕ) → (May t → ⊥) → Wants i m t u → Wants j m t u
  wanted_too t u other w = (rw (differ.others t other) w.0, by_own (project_of m t) (differ.others t other) w.1)
    where
      by_own : (o : Option ℕ) → choices_of j t ≡ choices_of i t → Improves i t u o → Improves j t u o
      by_own None e w = tt
      by_own (Some q) e w = rw e w

module _ (i j : Spa) (May : ℕ → Type 0) (m : List (Option ℕ)) (differ : DifferInLists i j May) (law : IsRanked j)
    (stable : IsStable j m) where
  -- who stands after t for a lecturer stood so before
  worse : (t u : ℕ) → Wants j m t u → (x q : ℕ) → project_of m x ≡ Some q → lecturer_of i q ≡ lecturer_of i u
      → IsBefore (ranking_of i (lecturer_of i u)) t x → IsBefore (ranking_of j (lecturer_of j u)) t x
  worse t u w x q e own before = search (rules, same_lecturer)

  -- no pair blocks it that is wanted there too
  pub unblocked_too : (t u : ℕ) → (Wants i m t u → Wants j m t u) → (x : Letter) → Blocks i m t u x → ⊥
  unblocked_too t u wanted A b = stable.unblocked t u A (
    wanted b.0,
    omega (arith, b.1, same_capacity i j May m differ u),
    rw (same_lecturer i j May m differ u) (omega
        (arith, b.2, same_count i j May m differ (lecturer_of i u), same_limit i j May m differ (lecturer_of i u))),
  )
  unblocked_too t u wanted B b = stable.unblocked t u B (
    wanted b.0,
    omega (arith, b.1, same_capacity i j May m differ u),
    rw (same_lecturer i j May m differ u) (same_count i j May m differ (lecturer_of i u) ∙ b.2
        ∙ sym (same_limit i j May m differ (lecturer_of i u))),
    grind (arith, same_lecturer, worse),
  )
  unblocked_too t u wanted C b = stable.unblocked t u C
      (wanted b.0, b.1 ∙ sym (same_capacity i j May m differ u), (b.2.0, b.2.1, worse t u (wanted b.0) b.2.0 u b.2.1 refl b.2.2))
