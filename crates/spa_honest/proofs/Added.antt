-- A matching that adds places to another: who is where it was blocks no more than there.
use Rattle.spa_honest.proofs.Base.{count_by-lt, ◌≡◌, ◌⊎◌, inl, inr, ℕ, zero, suc, ◌+◌, ◌<◌, ◌≤◌, Bool, true, false}
use Rattle.spa_honest.proofs.Base.{cond, List, [], ◌∷◌, length, Option, Some, None, refl, sym, ◌∙◌, ap, subst, arith}
use Rattle.spa_honest.proofs.Base.{count_by, eq-eqb, true_from_ne_false, cases_lt, Letter, A, B, C, Spa, is_project}
use Rattle.spa_honest.proofs.Base.{is_lecturer, at_project, at_lecturer, project_of, lecturer_of, capacity_of, limit_of}
use Rattle.spa_honest.proofs.Base.{Improves, IsWith, SomeWorseWith, Wants, Blocks, count_by-le, student_in_range}
use Rattle.spa_honest.proofs.Base.{is_project-at, project_from_test, AddsTo}
use Rattle.spa_honest.proofs.Assigned.{one_there}

-- the places of some students in x, and those of the others in n
abbrev pub joined : (ℕ → Bool) → List (Option ℕ) → List (Option ℕ) → List (Option ℕ)
joined r [] n = []
joined r (o ∷ x) [] = []
joined r (o ∷ x) (q ∷ n) = cond (r 0) o q ∷ joined (λ s. r (suc s)) x n

pub joined_length : (r : ℕ → Bool) (x n : List (Option ℕ)) → length x ≡ length n → length (joined r x n) ≡ length n
joined_length r [] [] e = refl
joined_length r [] (q ∷ n) e = absurd (omega arith)
joined_length r (o ∷ x) [] e = absurd (omega arith)
joined_length r (o ∷ x) (q ∷ n) e = omega (arith, joined_length (λ s. r (suc s)) x n (omega arith))

pub joined_at : (r : ℕ → Bool) (x n : List (Option ℕ)) (s : ℕ) → length x ≡ length n
    → project_of (joined r x n) s ≡ cond (r s) (project_of x s) (project_of n s)
joined_at r [] [] s e = nothing (r s)
  where
    nothing : (b : Bool) → ◌≡◌ {A = Option ℕ} None (cond b None None)
    nothing true = refl
    nothing false = refl
joined_at r [] (q ∷ n) s e = absurd (omega arith)
joined_at r (o ∷ x) [] s e = absurd (omega arith)
joined_at r (o ∷ x) (q ∷ n) zero e = refl
joined_at r (o ∷ x) (q ∷ n) (suc s) e = joined_at (λ k. r (suc k)) x n s (omega arith)

module _ (i : Spa) (n x : List (Option ℕ)) (adds : AddsTo i n x) where
  -- who is counted in n is counted in x
  counted : (f : Option ℕ → Bool) → f None ≡ false → (s : ℕ) → f (project_of n s) ≡ true → f (project_of x s) ≡ true
  counted f off s on = by_own (project_of n s) refl on
    where
      by_own : (o : Option ℕ) → project_of n s ≡ o → f o ≡ true → f (project_of x s) ≡ true
      by_own None e on = let wrong : true ≡ false = sym on ∙ off in cc
      by_own (Some q) e on = ap f (adds.keeps s q e) ∙ on

  no_fewer : (f : Option ℕ → Bool) → f None ≡ false → count_by f n ≤ count_by f x
  no_fewer f off = count_by-le f n x (sym adds.students) (counted f off)

  -- and where x has no more, nobody else
  nobody_new : (f : Option ℕ → Bool) → f None ≡ false → count_by f x ≤ count_by f n → (s : ℕ) → s < length x
      → f (project_of x s) ≡ true → f (project_of n s) ≡ true
  nobody_new f off level s low on =
      true_from_ne_false (f (project_of n s)) (λ e. omega (arith, level, count_by-lt f n x s (sym adds.students) (counted f off) low e on))

  was_at : (u z : ℕ) → at_project x u ≤ at_project n u → project_of x z ≡ Some u → project_of n z ≡ Some u
  was_at u z level at = project_from_test u (project_of n z)
      (nobody_new (is_project u) refl level z (student_in_range i x z u at) (is_project-at u (project_of x z) at))

  was_with : (l z q : ℕ) → at_lecturer i x l ≤ at_lecturer i n l → project_of x z ≡ Some q → lecturer_of i q ≡ l
      → project_of n z ≡ Some q
  was_with l z q level at own = by_own (project_of n z) refl
      (nobody_new (is_lecturer i l) refl level z (student_in_range i x z q at) (ap (is_lecturer i l) at ∙ eq-eqb (lecturer_of i q) l own))
    where
      by_own : (o : Option ℕ) → project_of n z ≡ o → is_lecturer i l o ≡ true → o ≡ Some q
      by_own None e on = absurd (cc)
      by_own (Some v) e on = sym (adds.keeps z v e) ∙ at

  -- where x has more at a project, n has room with its lecturer
  room_before : (u : ℕ) → at_project n u < at_project x u
      → at_lecturer i n (lecturer_of i u) < limit_of i (lecturer_of i u)
  room_before u more =
      let z = one_there i x n u adds.students more in
      let on : is_lecturer i (lecturer_of i u) (project_of x z.0) ≡ true = ap (is_lecturer i (lecturer_of i u)) z.1
      ∙ eq-eqb (lecturer_of i u) (lecturer_of i u) refl in
      let new : count_by (is_lecturer i (lecturer_of i u)) n + 1 ≤ count_by (is_lecturer i (lecturer_of i u)) x
      = count_by-lt (is_lecturer i (lecturer_of i u)) n x z.0 (sym adds.students) (counted (is_lecturer i (lecturer_of i u)) refl)
      (student_in_range i x z.0 u z.1) (off z.0 z.1 z.2 (project_of n z.0) refl) on in
      omega (arith, new, adds.lecturers (lecturer_of i u))
    where
      off : (z : ℕ) → project_of x z ≡ Some u → (project_of n z ≡ Some u → ⊥) → (o : Option ℕ) → project_of n z ≡ o
          → is_lecturer i (lecturer_of i u) o ≡ false
      off z at not_at None e = refl
      off z at not_at (Some q) e = absurd (not_at (e ∙ sym (adds.keeps z q e) ∙ at))

-- WHO IS WHERE n HAS THEM blocks x in no more ways than n
module _ (i : Spa) (n x : List (Option ℕ)) (adds : AddsTo i n x) (t u : ℕ) (stays : project_of x t ≡ project_of n t)
    (unblocked : (k : Letter) → Blocks i n t u k → ⊥) where
  wants : Wants i x t u → Wants i n t u
  wants w = (w.0, subst (Improves i t u) stays w.1)

  pub blocks_no_more : (k : Letter) → Blocks i x t u k → ⊥
  blocks_no_more A b = unblocked A (
    wants b.0,
    omega (arith, b.1, no_fewer i n x adds (is_project u) refl),
    omega (arith, b.2, no_fewer i n x adds (is_lecturer i (lecturer_of i u)) refl),
  )
  blocks_no_more B b =
      let free : at_project n u < capacity_of i u = omega (arith, b.1, no_fewer i n x adds (is_project u) refl) in
      elim (cases_lt (at_lecturer i n (lecturer_of i u)) (limit_of i (lecturer_of i u))) [
        | inl room ↦ unblocked A (wants b.0, free, room)
        | inr full ↦
            let few : at_lecturer i n (lecturer_of i u) ≤ at_lecturer i x (lecturer_of i u) =
            no_fewer i n x adds (is_lecturer i (lecturer_of i u)) refl in
            let level : at_lecturer i x (lecturer_of i u) ≤ at_lecturer i n (lecturer_of i u) = omega (arith, b.2, full) in
            unblocked B (wants b.0, free, omega (arith, few, level, b.2), still level b.3)
      ]
    where
      still : at_lecturer i x (lecturer_of i u) ≤ at_lecturer i n (lecturer_of i u)
          → IsWith i x (lecturer_of i u) t ⊎ SomeWorseWith i x (lecturer_of i u) t
          → IsWith i n (lecturer_of i u) t ⊎ SomeWorseWith i n (lecturer_of i u) t
      still level (inl own) = inl (own.0, sym stays ∙ own.1, own.2)
      still level (inr worse) = inr (
        worse.0,
        (
          worse.1.0,
          was_with i n x adds (lecturer_of i u) worse.0 worse.1.0 level worse.1.1 worse.1.2,
          worse.1.2,
        ),
        worse.2,
      )
  blocks_no_more C b = elim (cases_lt (at_project n u) (capacity_of i u)) [
    | inl room ↦ unblocked A (wants b.0, room, room_before i n x adds u (omega (arith, room, b.1)))
    | inr full ↦
        let few : at_project n u ≤ at_project x u = no_fewer i n x adds (is_project u) refl in
        let level : at_project x u ≤ at_project n u = omega (arith, b.1, full) in
        unblocked C (wants b.0, omega (arith, few, level, b.1), (b.2.0, was_at i n x adds u b.2.0 level b.2.1, b.2.2))
  ]

-- what is added for some of the students alone
pub adds_joined : (i : Spa) (n x : List (Option ℕ)) (r : ℕ → Bool) → AddsTo i n x → AddsTo i n (joined r x n)
adds_joined i n x r adds = record {
  students = long;
  keeps = λ s p e. joined_at r x n s adds.students ∙ either s p e (r s);
  projects = λ p. omega (arith, fewer (is_project p) refl, adds.projects p);
  lecturers = λ l. omega (arith, fewer (is_lecturer i l) refl, adds.lecturers l);
} where
  long : length (joined r x n) ≡ length n
  long = joined_length r x n adds.students

  either : (s p : ℕ) → project_of n s ≡ Some p → (b : Bool) → cond b (project_of x s) (project_of n s) ≡ Some p
  either s p e true = adds.keeps s p e
  either s p e false = e

  fewer : (f : Option ℕ → Bool) → f None ≡ false → count_by f (joined r x n) ≤ count_by f x
  fewer f off = count_by-le f (joined r x n) x (long ∙ sym adds.students)
      (λ s on. by_test s (r s) (subst (λ o. f o ≡ true) (joined_at r x n s adds.students) on))
    where
      by_test : (s : ℕ) (b : Bool) → f (cond b (project_of x s) (project_of n s)) ≡ true → f (project_of x s) ≡ true
      by_test s true on = on
      by_test s false on = counted i n x adds f off s on
