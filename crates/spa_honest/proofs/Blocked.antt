-- Whether somebody blocks a matching can be found out; so one that gives some student better than
-- the best one has a pair that blocks it, of a student to whom it gives nothing better.
use Rattle.spa_honest.proofs.Base.{◌≡◌, ◌⊎◌, inl, inr, ℕ, ◌<◌, true, false, List, length, Option, Some, None, sym, ◌∙◌}
use Rattle.spa_honest.proofs.Base.{arith, cases_Bool, cases_lt, Letter, A, B, C, Spa, place, at_project, at_lecturer}
use Rattle.spa_honest.proofs.Base.{project_of, choices_of, lecturer_of, ranking_of, capacity_of, limit_of, IsBefore}
use Rattle.spa_honest.proofs.Base.{IsAcceptable, Improves, Wants, IsWith, Blocks, IsMatching, IsAsGood, IsBest, IsRanked}
use Rattle.spa_honest.proofs.Base.{student_in_range, acceptable_in_range, blocks_wants}
use Rattle.spa_honest.proofs.Exists.{greatest, has_project, has_lecturer}
use Rattle.spa_honest.proofs.Last.{gains, not_better}
use Rattle.spa_honest.proofs.Gains.{blocked_outside, one_or_all}

is_before_or_not : (list : List ℕ) (a b : ℕ) → IsBefore list a b ⊎ (IsBefore list a b → ⊥)
is_before_or_not list a b = elim (cases_lt (place list a) (place list b)) [
  | inr late ↦ inr (λ h. omega (arith, h.0))
  | inl less ↦ elim (cases_lt (place list b) (length list)) [ inl on ↦ inl (less, on) | inr off ↦ inr (λ h. omega (arith, h.1)) ]
]

module _ (i : Spa) (m : List (Option ℕ)) (there : IsMatching i m) (s p : ℕ) where
  wants_or_not : Wants i m s p ⊎ (Wants i m s p → ⊥)
  wants_or_not = elim (cases_lt (place (choices_of i s) p) (length (choices_of i s))) [
    | inr off ↦ inr (λ w. omega (arith, w.0))
    | inl on ↦ by_own (project_of m s) on
  ]
    where
      by_own : (o : Option ℕ) → IsAcceptable i s p
          → (IsAcceptable i s p × Improves i s p o) ⊎ (IsAcceptable i s p × Improves i s p o → ⊥)
      by_own None on = inl (on, tt)
      by_own (Some q) on = elim (is_before_or_not (choices_of i s) p q) [ inl better ↦ inl (on, better) | inr worse ↦ inr (λ w. worse w.1) ]

  abbrev l : ℕ
  l = lecturer_of i p

  -- a student whom P holds of, and who stands after s, or none
  after_or_none : (P : ℕ → Type 0) → ((t : ℕ) → P t ⊎ (P t → ⊥)) → ((t : ℕ) → P t → t < length m)
      → ((t : ℕ) × P t × IsBefore (ranking_of i l) s t) ⊎ ((t : ℕ) → P t → IsBefore (ranking_of i l) s t → ⊥)
  after_or_none P test low = elim (greatest (λ t. P t × IsBefore (ranking_of i l) s t) both (λ t. 0) (length m)) [
    | inl one ↦ inl (one.0, one.2.0, one.2.1)
    | inr none ↦ inr (λ t of after. none t (low t of) (of, after))
  ]
    where
      both : (t : ℕ) → (P t × IsBefore (ranking_of i l) s t) ⊎ (P t × IsBefore (ranking_of i l) s t → ⊥)
      both t = elim (test t) [
        | inr misses ↦ inr (λ h. misses h.0)
        | inl of ↦ elim (is_before_or_not (ranking_of i l) s t) [ inl after ↦ inl (of, after) | inr before ↦ inr (λ h. before h.1) ]
      ]

  -- THE PAIR BLOCKS IN SOME WAY, or in none
  blocks_or_not : ((k : Letter) × Blocks i m s p k) ⊎ ((k : Letter) → Blocks i m s p k → ⊥)
  blocks_or_not = elim wants_or_not [
    | inr content ↦ inr (λ k b. content (blocks_wants i m s p k b))
    | inl wants ↦ elim (cases_lt (at_project m p) (capacity_of i p)) [
      | inl room ↦ elim (cases_lt (at_lecturer i m l) (limit_of i l)) [
        | inl room_l ↦ inl (A, (wants, room, room_l))
        | inr past_l ↦ full_lecturer wants room (omega (arith, past_l, there.lecturers l))
      ]
      | inr past ↦ full_project wants (omega (arith, past, there.projects p))
    ]
  ]
    where
      none_at : (at_project m p < capacity_of i p → at_lecturer i m l < limit_of i l → ⊥)
          → (at_project m p < capacity_of i p → at_lecturer i m l ≡ limit_of i l
          → IsWith i m l s ⊎ ((t : ℕ) × IsWith i m l t × IsBefore (ranking_of i l) s t) → ⊥)
          → (at_project m p ≡ capacity_of i p → (t : ℕ) → project_of m t ≡ Some p → IsBefore (ranking_of i l) s t → ⊥)
          → (k : Letter) → Blocks i m s p k → ⊥
      none_at a b c A h = a h.1 h.2
      none_at a b c B h = b h.1 h.2 h.3
      none_at a b c C h = c h.1 h.2.0 h.2.1 h.2.2

      full_lecturer : Wants i m s p → at_project m p < capacity_of i p → at_lecturer i m l ≡ limit_of i l
          → ((k : Letter) × Blocks i m s p k) ⊎ ((k : Letter) → Blocks i m s p k → ⊥)
      full_lecturer wants room full = elim (has_lecturer i l (project_of m s)) [
        | inl own ↦ inl (B, (wants, room, full, inl own))
        | inr not_own ↦ elim (after_or_none (IsWith i m l) (λ t. has_lecturer i l (project_of m t))
            (λ t own. student_in_range i m t own.0 own.1)) [
              | inl one ↦ inl (B, (wants, room, full, inr one))
              | inr none ↦ inr (none_at (λ _ room_l. omega (arith, full, room_l))
                  (λ _ _ why. elim why [ inl own ↦ not_own own | inr one ↦ none one.0 one.1 one.2 ])
                  (λ level _ _ _. omega (arith, level, room)))
            ]
      ]

      full_project : Wants i m s p → at_project m p ≡ capacity_of i p
          → ((k : Letter) × Blocks i m s p k) ⊎ ((k : Letter) → Blocks i m s p k → ⊥)
      full_project wants full = elim (after_or_none (λ t. project_of m t ≡ Some p) (λ t. has_project p (project_of m t))
          (λ t at. student_in_range i m t p at)) [
            | inl one ↦ inl (C, (wants, full, one))
            | inr none ↦ inr (none_at (λ room _. omega (arith, full, room)) (λ room _ _. omega (arith, full, room))
                (λ _ t at after. none t at after))
          ]

module _ (i : Spa) (law : IsRanked i) (m x : List (Option ℕ)) (best : IsBest i m) (there : IsMatching i x) where
  as_good : (t : ℕ) → gains i m x t ≡ false → IsAsGood i t (project_of m t) (project_of x t)
  as_good t misses = not_better i t (project_of x t) (project_of m t) (λ q e. there.acceptable t q e)
      (λ q e. best.stable.matching.acceptable t q e) misses

  -- a pair of t that blocks, where t does not gain
  abbrev Outside : ℕ → Type 0
  Outside t = (p : ℕ) × (k : Letter) × Blocks i x t p k × IsAsGood i t (project_of m t) (project_of x t)

  abbrev NoneOutside : ℕ → Type 0
  NoneOutside t = (p : ℕ) (k : Letter) → gains i m x t ≡ false → Blocks i x t p k → ⊥

  outside_or_none : (t : ℕ) → Outside t ⊎ NoneOutside t
  outside_or_none t = elim (cases_Bool (gains i m x t)) [
    | inl meets ↦ inr (λ p k misses b. let wrong : true ≡ false = sym meets ∙ misses in cc)
    | inr misses ↦ elim (one_or_all (λ p. (k : Letter) × Blocks i x t p k) (λ p. (k : Letter) → Blocks i x t p k → ⊥)
        (blocks_or_not i x there t) (length i.lecturers)) [
          | inl one ↦ inl (one.0, one.2.0, one.2.1, as_good t misses)
          | inr all ↦ inr (λ p k _ b. all p (law.known t p (blocks_wants i x t p k b).0) k b)
        ]
  ]

  -- SOMEBODY ELSE BLOCKS
  pub somebody_blocks : (s : ℕ) → (IsAsGood i s (project_of m s) (project_of x s) → ⊥)
      → (t : ℕ) × (p : ℕ) × (k : Letter) × Blocks i x t p k × IsAsGood i t (project_of m t) (project_of x t)
  somebody_blocks s better = elim (one_or_all Outside NoneOutside outside_or_none (length i.choices)) [
    | inl one ↦ (one.0, one.2.0, one.2.1, one.2.2, one.2.3)
    | inr all ↦ absurd (elim (cases_Bool (gains i m x s)) [
      | inr misses ↦ better (as_good s misses)
      | inl meets ↦ blocked_outside i law m best x there s meets
          (λ t p k misses b. all t (acceptable_in_range i t p (blocks_wants i x t p k b).0) p k misses b)
    ])
  ]
