-- One student drops out, and all others keep theirs: other students block only at the lecturer's.
use Rattle.spa_honest.proofs.Base.{◌≡◌, ◌≢◌, inl, inr, ℕ, List, set, Option, Some, None, refl, sym, ◌∙◌, ap, subst, arith}
use Rattle.spa_honest.proofs.Base.{cases_eq, ne_eqb, get_or-set_same, get_or-set_other, one_if, count_by, count_by-set}
use Rattle.spa_honest.proofs.Base.{Letter, A, B, C, Spa, is_project, is_lecturer, at_project, at_lecturer, project_of}
use Rattle.spa_honest.proofs.Base.{lecturer_of, Improves, Wants, IsWith, SomeWorseWith, Blocks, IsStable, student_in_range, ◌⊎◌, Bool, false}

module _ (i : Spa) (m : List (Option ℕ)) (s q t p : ℕ) (stable : IsStable i m) (had : project_of m s ≡ Some q) (other : t ≢ s)
    (far : lecturer_of i p ≢ lecturer_of i q) where
  abbrev out : List (Option ℕ)
  out = set m s None

  -- who has a project had it
  kept : (x v : ℕ) → project_of out x ≡ Some v → project_of m x ≡ Some v
  kept x v e = elim (cases_eq x s) [
    | inl same ↦ let none : project_of out x ≡ None = rw same (get_or-set_same m s None None (student_in_range i m s q had)) in absurd (cc)
    | inr apart ↦ sym (get_or-set_other m s x None None apart) ∙ e
  ]

  -- a count to which s adds nothing
  as_many : (f : Option ℕ → Bool) → f None ≡ false → f (Some q) ≡ false → count_by f out ≡ count_by f m
  as_many f off not_s = omega (
    arith,
    count_by-set f m s None (student_in_range i m s q had),
    ap (λ o. one_if (f o)) had,
    ap one_if off,
    ap one_if not_s,
  )

  at_p : at_project out p ≡ at_project m p
  at_p = as_many (is_project p) refl (ne_eqb q p (λ same. far (ap (lecturer_of i) (sym same))))

  with_l : at_lecturer i out (lecturer_of i p) ≡ at_lecturer i m (lecturer_of i p)
  with_l = as_many (is_lecturer i (lecturer_of i p)) refl (ne_eqb (lecturer_of i q) (lecturer_of i p) (λ same. far (sym same)))

  wants : Wants i out t p → Wants i m t p
  wants w = (w.0, subst (Improves i t p) (get_or-set_other m s t None None other) w.1)

  blocked_before : (k : Letter) → Blocks i out t p k → Blocks i m t p k
  blocked_before A b = (wants b.0, omega (arith, b.1, at_p), omega (arith, b.2, with_l))
  blocked_before B b = (wants b.0, omega (arith, b.1, at_p), sym with_l ∙ b.2, still b.3)
    where
      still : IsWith i out (lecturer_of i p) t ⊎ SomeWorseWith i out (lecturer_of i p) t
          → IsWith i m (lecturer_of i p) t ⊎ SomeWorseWith i m (lecturer_of i p) t
      still (inl own) = inl (own.0, kept t own.0 own.1, own.2)
      still (inr worse) = inr (worse.0, (worse.1.0, kept worse.0 worse.1.0 worse.1.1, worse.1.2), worse.2)
  blocked_before C b = (wants b.0, sym at_p ∙ b.1, (b.2.0, kept b.2.0 p b.2.1, b.2.2))

pub dropout_stays_local : (i : Spa) (m : List (Option ℕ)) (s q t p : ℕ) (k : Letter) → IsStable i m → project_of m s ≡ Some q
    → t ≢ s → Blocks i (set m s None) t p k → lecturer_of i p ≡ lecturer_of i q
dropout_stays_local i m s q t p k stable had other b = elim (cases_eq (lecturer_of i p) (lecturer_of i q)) [
  | inl same ↦ same
  | inr far ↦ absurd (stable.unblocked t p k (blocked_before i m s q t p stable had other far k b))
]
