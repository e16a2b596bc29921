-- No group of students gains by other lists, and so no student.
use Rattle.spa_honest.proofs.Base.{◌≡◌, Bool, refl, cond, ltb, ltb-true, lt-ltb, false_from_ne_true, IsAsGood, AddsTo}
use Rattle.spa_honest.proofs.Base.{◌⊎◌, inl, inr, ℕ, zero, suc, ◌<◌, ◌≤◌, true, false, List, [], ◌∷◌, length, get_or}
use Rattle.spa_honest.proofs.Base.{Option, Some, None, sym, ◌∙◌, ap, subst, arith, cases_lt, cases_eq, Letter, Spa}
use Rattle.spa_honest.proofs.Base.{place, choices_of, project_of, IsOn, IsAcceptable, IsMatching, Blocks, IsStable}
use Rattle.spa_honest.proofs.Base.{IsBest, IsRanked, DifferInLists, DifferInOneList, get_or-place, place-get_or-le}
use Rattle.spa_honest.proofs.Base.{IsNoWorse}
use Rattle.spa_honest.proofs.Lists.{one_on, on_one}
use Rattle.spa_honest.proofs.Outside.{outside, not_grown}
use Rattle.spa_honest.proofs.Last.{better, not_better, gains, turned_away}
use Rattle.spa_honest.proofs.Carry.{wanted_too, unblocked_too, same_capacity, same_limit, same_count}
use Rattle.spa_honest.proofs.Added.{joined, joined_at, adds_joined, blocks_no_more}

-- WHERE SOMEBODY LIKES A MATCHING BETTER than the best one, somebody who does not blocks it
pub blocked_outside : (i : Spa) → IsRanked i → (best : List (Option ℕ)) → IsBest i best → (x : List (Option ℕ))
    → IsMatching i x → (s : ℕ) → gains i best x s ≡ true
    → ((t u : ℕ) (k : Letter) → gains i best x t ≡ false → Blocks i x t u k → ⊥) → ⊥
blocked_outside i law best is_best x there s meets unblocked =
    let y = turned_away i law best is_best x there s meets in
    outside i law i.capacities i.limits (not_grown i) (gains i best x) x y.0 y.1 there unblocked

-- one of the numbers below n has the first property, or all have the second
pub one_or_all : (P Q : ℕ → Type 0) → ((k : ℕ) → P k ⊎ Q k) → (n : ℕ) → ((k : ℕ) × (k < n) × P k) ⊎ ((k : ℕ) → k < n → Q k)
one_or_all P Q either zero = inr (λ k h. absurd (omega arith))
one_or_all P Q either (suc n) = elim (either n) [
  | inl here ↦ inl (n, omega arith, here)
  | inr last ↦ elim (one_or_all P Q either n) [
    | inl one ↦ inl (one.0, omega (arith, one.1), one.2)
    | inr all ↦ inr (λ k h. elim (cases_eq k n) [ inl same ↦ subst Q (sym same) last | inr other ↦ all k (omega arith) ])
  ]
]

-- what s has in n stands on the list in i, and is better than what m gives
abbrev Gains : Spa → List (Option ℕ) → List (Option ℕ) → ℕ → Type 0
Gains i m n s = ((p : ℕ) → project_of n s ≡ Some p → IsAcceptable i s p) × (gains i m n s ≡ true)

module _ (i : Spa) (m n : List (Option ℕ)) (best : IsBest i m) where
  no_worse_or_gains : (s : ℕ) → IsNoWorse i s (project_of m s) (project_of n s) ⊎ Gains i m n s
  no_worse_or_gains s = by_own (project_of n s)
    where
      by_own : (o : Option ℕ)
          → IsNoWorse i s (project_of m s) o ⊎ (((p : ℕ) → o ≡ Some p → IsAcceptable i s p) × (better i s o (project_of m s) ≡ true))
      by_own None = inl (λ p e on. absurd (cc))
      by_own (Some p) = elim (cases_lt (place (choices_of i s) p) (length (choices_of i s))) [
        | inr off ↦ inl (λ q e on. let is : p ≡ q = cc in absurd (omega (arith, on, ap (place (choices_of i s)) is)))
        | inl on ↦ grind (arith, not_better)
      ]

-- ---- the group has what x gives, the others what n gives

abbrev member : List ℕ → ℕ → Bool
member group t = ltb (place group t) (length group)

module _ (i j : Spa) (group : List ℕ) (m n x : List (Option ℕ)) (law : IsRanked j) (differ : DifferInLists i j (IsOn group))
    (stable : IsStable j n) (adds : AddsTo j n x) (all : (t : ℕ) → IsOn group t → Gains i m x t) where
  adds_here : AddsTo i n (joined (member group) x n)
  adds_here =
      let more = adds_joined j n x (member group) adds in
      let y = joined (member group) x n in
      record {
        students = more.students;
        keeps = more.keeps;
        projects = λ p. omega (arith, more.projects p, same_capacity i j (IsOn group) y differ p);
        lecturers = λ l. omega (arith, more.lecturers l, same_count i j (IsOn group) y differ l, same_limit i j (IsOn group) y differ l);
      }

  of_group : (t : ℕ) → IsOn group t → project_of (joined (member group) x n) t ≡ project_of x t
  of_group t on = joined_at (member group) x n t adds.students
      ∙ ap (λ b. cond b (project_of x t) (project_of n t)) (lt-ltb (place group t) (length group) on)

  of_others : (t : ℕ) → (IsOn group t → ⊥) → project_of (joined (member group) x n) t ≡ project_of n t
  of_others t off =
      joined_at (member group) x n t adds.students
      ∙ ap (λ b. cond b (project_of x t) (project_of n t))
      (false_from_ne_true (member group t) (λ e. off (ltb-true (place group t) (length group) e)))

  there : IsMatching i (joined (member group) x n)
  there = record {
    students = adds_here.students ∙ stable.matching.students ∙ differ.students;
    acceptable = λ t q e. elim (cases_lt (place group t) (length group)) [
      | inl on ↦ (all t on).0 q (sym (of_group t on) ∙ e)
      | inr off ↦ let out : IsOn group t → ⊥ = λ on. omega (arith, on) in
          rw (differ.others t out) at (stable.matching.acceptable t q (sym (of_others t out) ∙ e))
    ];
    projects = adds_here.projects;
    lecturers = adds_here.lecturers;
  }

  gains_too : (t : ℕ) → IsOn group t → gains i m (joined (member group) x n) t ≡ true
  gains_too t on = ap (λ o. better i t o (project_of m t)) (of_group t on) ∙ (all t on).1

  unblocked : (t u : ℕ) (k : Letter) → gains i m (joined (member group) x n) t ≡ false
      → Blocks i (joined (member group) x n) t u k → ⊥
  unblocked t u k misses =
      let out : IsOn group t → ⊥ = λ on. let wrong : true ≡ false = sym (gains_too t on) ∙ misses in cc in
      blocks_no_more i n (joined (member group) x n) adds_here t u (of_others t out)
      (unblocked_too i j (IsOn group) n differ law stable t u (wanted_too i j (IsOn group) n differ t u out)) k

  pub not_all : IsRanked i → IsBest i m → (t : ℕ) → IsOn group t → ⊥
  not_all lawful best t on = blocked_outside i lawful m best (joined (member group) x n) there t (gains_too t on) unblocked

-- NO GROUP GAINS, not even over two rounds
pub no_group_gains_over_both : (i j : Spa) (group : List ℕ) (m n x : List (Option ℕ)) → IsRanked i → IsRanked j
    → 1 ≤ length group → DifferInLists i j (IsOn group) → IsBest i m → IsStable j n → AddsTo j n x
    → (s : ℕ) × IsOn group s × IsNoWorse i s (project_of m s) (project_of x s)
no_group_gains_over_both i j group m n x lawful law some differ best stable adds =
    elim (one_or_all (λ k. IsNoWorse i (get_or group k 0) (project_of m (get_or group k 0)) (project_of x (get_or group k 0)))
    (λ k. Gains i m x (get_or group k 0)) (λ k. no_worse_or_gains i m x best (get_or group k 0)) (length group)) [
      | inl one ↦ (get_or group one.0 0, omega (arith, one.1, place-get_or-le group one.0 0 one.1), one.2)
      | inr all ↦ absurd (
          not_all i j group m n x law differ stable adds
          (λ t on. subst (Gains i m x) (get_or-place group t 0 on) (all (place group t) on)) lawful best
          (get_or group 0 0) (omega (arith, place-get_or-le group 0 0 some))
          )
    ]

-- a second round may give nothing
adds_nothing : (j : Spa) (n : List (Option ℕ)) → IsStable j n → AddsTo j n n
adds_nothing j n stable = record {
  students = refl;
  keeps = λ s p e. e;
  projects = stable.matching.projects;
  lecturers = stable.matching.lecturers;
}

-- in one round
pub no_group_gains : (i j : Spa) (group : List ℕ) (m n : List (Option ℕ)) → IsRanked i → IsRanked j → 1 ≤ length group
    → DifferInLists i j (IsOn group) → IsBest i m → IsStable j n
    → (s : ℕ) × IsOn group s × IsNoWorse i s (project_of m s) (project_of n s)
no_group_gains i j group m n lawful law some differ best stable =
    no_group_gains_over_both i j group m n n lawful law some differ best stable (adds_nothing j n stable)

-- ONE STUDENT: the group of one
pub no_one_gains_over_both : (i j : Spa) (s : ℕ) (m n x : List (Option ℕ)) → IsRanked i → IsRanked j
    → DifferInOneList i j s → IsBest i m → IsStable j n → AddsTo j n x → IsNoWorse i s (project_of m s) (project_of x s)
no_one_gains_over_both i j s m n x lawful law differ best stable adds =
    let one = no_group_gains_over_both i j (s ∷ []) m n x lawful law (omega arith) (record {
      students = differ.students;
      lecturers = differ.lecturers;
      capacities = differ.capacities;
      limits = differ.limits;
      others = λ t other. differ.others t (λ same. other (rw same (on_one s)));
      orders = differ.orders;
    }) best stable adds in
    subst (λ t. IsNoWorse i t (project_of m t) (project_of x t)) (sym (one_on s one.0 one.1)) one.2

-- NO OTHER LIST GAINS
pub honest_is_best : (i j : Spa) (s : ℕ) (m n : List (Option ℕ)) → IsRanked i → IsRanked j → DifferInOneList i j s
    → IsBest i m → IsStable j n → IsNoWorse i s (project_of m s) (project_of n s)
honest_is_best i j s m n lawful law differ best stable =
    no_one_gains_over_both i j s m n n lawful law differ best stable (adds_nothing j n stable)

-- NO OTHER ORDER of the same projects, or of some of them
pub order_honestly : (i j : Spa) (s : ℕ) (m n : List (Option ℕ)) → IsRanked i → IsRanked j → DifferInOneList i j s
    → ((p : ℕ) → IsAcceptable j s p → IsAcceptable i s p) → IsBest i m → IsStable j n
    → IsAsGood i s (project_of m s) (project_of n s)
order_honestly i j s m n lawful law differ within best stable = by_own (project_of n s) refl
  where
    by_own : (o : Option ℕ) → project_of n s ≡ o → IsAsGood i s (project_of m s) o
    by_own None e = tt
    by_own (Some p) e = honest_is_best i j s m n lawful law differ best stable p e (within p (stable.matching.acceptable s p e))
