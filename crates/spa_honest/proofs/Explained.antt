-- A matching is stable where each project that a student would rather have is taken, or its lecturer is.
use Rattle.spa_honest.proofs.Base.{◌≡◌, ◌⊎◌, inl, inr, ℕ, List, Option, Some, refl, arith, cases_lt, cases_order, A, B}
use Rattle.spa_honest.proofs.Base.{C, Spa, place, at_project, at_lecturer, project_of, choices_of, lecturer_of}
use Rattle.spa_honest.proofs.Base.{ranking_of, capacity_of, limit_of, IsBefore, IsMatching, Wants, IsStable, IsRanked}
use Rattle.spa_honest.proofs.Base.{place-injective, IsTaken, IsBusy, blocks_wants, spent_unblocked}

-- who wants p has it not
module _ (i : Spa) (m : List (Option ℕ)) (s p : ℕ) (wants : Wants i m s p) where
  elsewhere : project_of m s ≡ Some p → ⊥
  elsewhere e = let before : IsBefore (choices_of i s) p p = rw e at wants.1 in omega (arith, before.0)

  module _ (law : IsRanked i) (stable : IsStable i m) where
    -- who is with the lecturer and not after s is above s
    above : (t q : ℕ) → project_of m t ≡ Some q → lecturer_of i q ≡ lecturer_of i p → (t ≡ s → ⊥)
        → (IsBefore (ranking_of i (lecturer_of i p)) s t → ⊥) → IsBefore (ranking_of i (lecturer_of i p)) t s
    above t q at own other not_after = elim (cases_order (place (ranking_of i (lecturer_of i p)) t)
        (place (ranking_of i (lecturer_of i p)) s)) [
          | inl level ↦ absurd (other (place-injective (ranking_of i (lecturer_of i p)) t s
              (rw own at (law.ranked t q (stable.matching.acceptable t q at))) level))
          | inr apart ↦ elim apart [
            | inl better ↦ (better, law.ranked s p wants.0)
            | inr worse ↦ absurd (not_after (worse, rw own at (law.ranked t q (stable.matching.acceptable t q at))))
          ]
        ]

    pub why_not : IsTaken i m p s ⊎ IsBusy i m (lecturer_of i p) s
    why_not = elim (cases_lt (at_project m p) (capacity_of i p)) [
      | inr full ↦
          let level : at_project m p ≡ capacity_of i p = omega (arith, full, stable.matching.projects p) in
          inl (record {
            full = level;
            above = λ t at. above t p at refl (λ same. elsewhere (rw same at at))
                (λ after. stable.unblocked s p C (wants, level, (t, at, after)));
          })
      | inl room ↦ elim (cases_lt (at_lecturer i m (lecturer_of i p)) (limit_of i (lecturer_of i p))) [
        | inl room_l ↦ absurd (stable.unblocked s p A (wants, room, room_l))
        | inr full_l ↦
            let level : at_lecturer i m (lecturer_of i p)
            ≡ limit_of i (lecturer_of i p) = omega (arith, full_l, stable.matching.lecturers (lecturer_of i p)) in
            inr (record {
              full = level;
              above = λ t with'.
                  above t with'.0 with'.1 with'.2 (λ same. stable.unblocked s p B
                  (wants, room, level, inl (with'.0, rw same at with'.1, with'.2)))
                  (λ after. stable.unblocked s p B (wants, room, level, inr (t, with', after)));
            })
      ]
    ]

-- the other way round
pub stable_so : (i : Spa) (m : List (Option ℕ)) → IsMatching i m
    → ((s p : ℕ) → Wants i m s p → IsTaken i m p s ⊎ IsBusy i m (lecturer_of i p) s) → IsStable i m
stable_so i m matching why = record {
  matching = matching;
  unblocked = λ s p k b. spent_unblocked i m s p (elim (why s p (blocks_wants i m s p k b)) [
    | inl taken ↦ inr (record { full = taken.full; before = λ t e. (taken.above t e).0 })
    | inr busy ↦ inl (record { full = busy.full; before = λ t q e own. (busy.above t (q, e, own)).0 })
  ]) k b;
}
