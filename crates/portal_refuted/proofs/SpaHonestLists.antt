-- Refutes laws on honest lists with a wrong list, order, group or second round, and a complaint about
-- the own project.
use Rattle.std.specs.Prelude.{◌↔◌}
use Rattle.spa_honest.proofs.Base.{◌≡◌, ◌≤◌, ◌⊎◌, inl, inr, ℕ, zero, suc, List, [], ◌∷◌, length, Option, Some, None}
use Rattle.spa_honest.proofs.Base.{refl, arith, eqb, ne_eqb, false}
use Rattle.spa_honest.proofs.Base.{Spa, IsLawful, IsMatching, IsStable, IsBest, IsAsGood, IsAcceptable, IsBefore}
use Rattle.spa_honest.proofs.Base.{IsOn, ranked_of}
use Rattle.spa_honest.proofs.Base.{choices_of, project_of, ranking_of, at_project, at_lecturer, capacity_of, limit_of}
use Rattle.spa_honest.proofs.Base.{lecturer_of}
use Rattle.spa_honest.proofs.Base.{ann, bells, kites, tides, example, honest_list, safe_list}
use Rattle.spa_honest.proofs.Base.{DifferInLists, DifferInOneList, IsBusy, IsNoWorse, IsTaken}
use Rattle.spa_honest.proofs.Tested.{lawful_by, best_by}
use Rattle.spa_honest.proofs.Worked.{honest_lawful, honest_best, safe_lawful, safe_best}

-- Ann lists Tides and Bells, and has Bells
abbrev few : Spa
few = example (tides ∷ bells ∷ [])

few_lawful : IsLawful few
few_lawful = lawful_by few refl

few_best : IsBest few (Some bells ∷ Some tides ∷ Some kites ∷ [])
few_best = best_by few (ranked_of few few_lawful) (Some bells ∷ Some tides ∷ Some kites ∷ []) refl

-- two examples differ in Ann's list alone
differ : (one other : List ℕ) → DifferInOneList (example one) (example other) ann
differ one other =
    record {
      students = refl;
      lecturers = refl;
      capacities = refl;
      limits = refl;
      others = others;
      orders = λ l a b on_a on_b before. before;
    }
  where
    others : (t : ℕ) → (t ≡ ann → ⊥) → choices_of (example other) t ≡ choices_of (example one) t
    others zero not_ann = absurd (not_ann refl)
    others (suc t) not_ann = refl

-- ---- judged by the other list

abbrev BestByTheOtherList : Type 0
BestByTheOtherList =
    (i j : Spa) (s : ℕ) (m n : List (Option ℕ)) → IsLawful i → IsLawful j → DifferInOneList i j s
    → IsBest i m → IsStable j n → IsNoWorse j s (project_of m s) (project_of n s)

pub honest_list_is_worse_by_the_other_list : BestByTheOtherList → ⊥
honest_list_is_worse_by_the_other_list law =
    elim (law (example honest_list) (example safe_list) ann _ _ honest_lawful safe_lawful
    (differ honest_list safe_list) honest_best safe_best.stable bells refl (omega arith)) [
      | inl same ↦ omega (arith, same)
      | inr before ↦ omega (arith, before.0)
    ]

-- ---- a project off the list counts

abbrev BestOfAnyProject : Type 0
BestOfAnyProject =
    (i j : Spa) (s : ℕ) (m n : List (Option ℕ)) → IsLawful i → IsLawful j → DifferInOneList i j s
    → IsBest i m → IsStable j n → (p : ℕ) → project_of n s ≡ Some p → IsAsGood i s (project_of m s) (Some p)

not_as_good : IsAsGood few ann (Some bells) (Some kites) → ⊥
not_as_good good = elim good [ inl same ↦ omega (arith, same) | inr before ↦ omega (arith, before.1) ]

pub unlisted_project_may_be_had_with_another_list : BestOfAnyProject → ⊥
unlisted_project_may_be_had_with_another_list law =
    not_as_good (law few (example honest_list) ann _ _ few_lawful honest_lawful
    (differ (tides ∷ bells ∷ []) honest_list) few_best honest_best.stable kites refl)

-- ---- the other list may have other projects

abbrev OrderAnyProjects : Type 0
OrderAnyProjects =
    (i j : Spa) (s : ℕ) (m n : List (Option ℕ)) → IsLawful i → IsLawful j → DifferInOneList i j s
    → IsBest i m → IsStable j n → IsAsGood i s (project_of m s) (project_of n s)

pub other_projects_listed_are_not_judged : OrderAnyProjects → ⊥
other_projects_listed_are_not_judged law =
    not_as_good (law few (example honest_list) ann _ _ few_lawful honest_lawful
    (differ (tides ∷ bells ∷ []) honest_list) few_best honest_best.stable)

-- ---- lecturers who order the students by what is handed in

pub record DifferInRankingsToo (i j : Spa) : Type 0 where
  pub students : length j.choices ≡ length i.choices
  pub lecturers : j.lecturers ≡ i.lecturers
  pub capacities : j.capacities ≡ i.capacities
  pub limits : j.limits ≡ i.limits
  pub others : (t : ℕ) → choices_of j t ≡ choices_of i t
  pub orders : (l a b : ℕ) → IsOn (ranking_of j l) a → IsOn (ranking_of j l) b → IsBefore (ranking_of i l) a b
      → IsOn (ranking_of j l) b

abbrev BestForAnyRankings : Type 0
BestForAnyRankings =
    (i j : Spa) (s : ℕ) (m n : List (Option ℕ)) → IsLawful i → IsLawful j → DifferInRankingsToo i j
    → IsBest i m → IsStable j n → IsNoWorse i s (project_of m s) (project_of n s)

-- Lee ranks Ann first
abbrev for_ann : Spa
for_ann = record (example honest_list) { rankings = (0 ∷ 1 ∷ 2 ∷ []) ∷ (0 ∷ 2 ∷ []) ∷ [] }

for_ann_lawful : IsLawful for_ann
for_ann_lawful = lawful_by for_ann refl

for_ann_best : IsBest for_ann (Some tides ∷ None ∷ Some kites ∷ [])
for_ann_best = best_by for_ann (ranked_of for_ann for_ann_lawful) (Some tides ∷ None ∷ Some kites ∷ []) refl

pub rankings_that_differ_may_pay : BestForAnyRankings → ⊥
rankings_that_differ_may_pay law =
    elim (law (example honest_list) for_ann ann _ _ honest_lawful for_ann_lawful only_orders honest_best for_ann_best.stable tides refl
    (omega arith)) [
      | inl same ↦ omega (arith, same)
      | inr before ↦ omega (arith, before.0)
    ]
  where
    only_orders : DifferInRankingsToo (example honest_list) for_ann
    only_orders = record {
      students = refl;
      lecturers = refl;
      capacities = refl;
      limits = refl;
      others = λ t. refl;
      orders = λ l a b on_a on_b before. on_b;
    }

-- ---- second rounds that break a rule; Lee takes one student, and ranks Ben before Ann

abbrev apart : Spa
apart =
    record {
      student_keys = (97 ∷ []) ∷ (98 ∷ []) ∷ [];
      choices = (0 ∷ []) ∷ (1 ∷ []) ∷ [];
      project_keys = (107 ∷ []) ∷ (116 ∷ []) ∷ [];
      lecturers = 0 ∷ 0 ∷ [];
      capacities = 1 ∷ 1 ∷ [];
      lecturer_keys = (108 ∷ []) ∷ [];
      rankings = (1 ∷ 0 ∷ []) ∷ [];
      limits = 1 ∷ [];
    }

apart_lawful : IsLawful apart
apart_lawful = lawful_by apart refl

apart_best : IsBest apart (None ∷ Some 1 ∷ [])
apart_best = best_by apart (ranked_of apart apart_lawful) (None ∷ Some 1 ∷ []) refl

same_lists : DifferInLists apart apart (IsOn (0 ∷ []))
same_lists = record {
  students = refl;
  lecturers = refl;
  capacities = refl;
  limits = refl;
  others = λ t not_on. refl;
  orders = λ l a b on_a on_b before. before;
}

-- whoever of this group of one gains nothing, is Ann, and she does not have Kites in the second round
ann_gains : (s : ℕ) × IsOn (0 ∷ []) s × IsNoWorse apart s (project_of (None ∷ Some 1 ∷ []) s)
    (project_of (Some 0 ∷ Some 1 ∷ []) s) → ⊥
ann_gains (zero, on, no_worse) = no_worse 0 refl (omega arith)
ann_gains (suc s, on, no_worse) =
    let other : eqb 0 (suc s) ≡ false = ne_eqb 0 (suc s) (λ e. absurd (omega (arith, e))) in
    omega (arith, rw other at on)

pub record AddsOverLimits (i : Spa) (n x : List (Option ℕ)) : Type 0 where
  pub students : length x ≡ length n
  pub keeps : (s p : ℕ) → project_of n s ≡ Some p → project_of x s ≡ Some p
  pub projects : (p : ℕ) → at_project x p ≤ capacity_of i p

abbrev NoGroupGainsOverLimits : Type 0
NoGroupGainsOverLimits =
    (i j : Spa) (group : List ℕ) (m n x : List (Option ℕ)) → IsLawful i → IsLawful j
    → DifferInLists i j (IsOn group) → 1 ≤ length group → IsBest i m → IsStable j n → AddsOverLimits j n x
    → (s : ℕ) × IsOn group s × IsNoWorse i s (project_of m s) (project_of x s)

pub overfilled_lecturer_lets_a_group_gain : NoGroupGainsOverLimits → ⊥
overfilled_lecturer_lets_a_group_gain law =
    ann_gains (law apart apart (0 ∷ []) _ _ (Some 0 ∷ Some 1 ∷ []) apart_lawful apart_lawful same_lists
    (omega arith) apart_best apart_best.stable adds)
  where
    past : (n k : ℕ) → n ≤ 1 → eqb n (suc (suc k)) ≡ false
    past n k low = ne_eqb n (suc (suc k)) (λ e. absurd (omega (arith, e, low)))

    projects : (p : ℕ) → at_project (Some 0 ∷ Some 1 ∷ []) p ≤ capacity_of apart p
    projects zero = omega arith
    projects (suc zero) = omega arith
    projects (suc (suc p)) = rw (past 0 p (omega arith), past 1 p (omega arith)) (omega arith)

    keeps : (s p : ℕ) → project_of (None ∷ Some 1 ∷ []) s ≡ Some p → project_of (Some 0 ∷ Some 1 ∷ []) s ≡ Some p
    keeps zero p at = absurd (cc at)
    keeps (suc zero) p at = at
    keeps (suc (suc s)) p at = at

    adds : AddsOverLimits apart (None ∷ Some 1 ∷ []) (Some 0 ∷ Some 1 ∷ [])
    adds = record { students = refl; keeps = keeps; projects = projects }

pub record AddsAndMoves (i : Spa) (n x : List (Option ℕ)) : Type 0 where
  pub students : length x ≡ length n
  pub projects : (p : ℕ) → at_project x p ≤ capacity_of i p
  pub lecturers : (l : ℕ) → at_lecturer i x l ≤ limit_of i l

abbrev NoGroupGainsByMoves : Type 0
NoGroupGainsByMoves =
    (i j : Spa) (group : List ℕ) (m n x : List (Option ℕ)) → IsLawful i → IsLawful j
    → DifferInLists i j (IsOn group) → 1 ≤ length group → IsBest i m → IsStable j n → AddsAndMoves j n x
    → (s : ℕ) × IsOn group s × IsNoWorse i s (project_of m s) (project_of x s)

moved_gains : (s : ℕ) × IsOn (0 ∷ []) s × IsNoWorse apart s (project_of (None ∷ Some 1 ∷ []) s)
    (project_of (Some 0 ∷ None ∷ []) s) → ⊥
moved_gains (zero, on, no_worse) = no_worse 0 refl (omega arith)
moved_gains (suc s, on, no_worse) =
    let other : eqb 0 (suc s) ≡ false = ne_eqb 0 (suc s) (λ e. absurd (omega (arith, e))) in
    omega (arith, rw other at on)

-- Ben is moved out, and Ann in
pub moved_student_lets_a_group_gain : NoGroupGainsByMoves → ⊥
moved_student_lets_a_group_gain law =
    moved_gains (law apart apart (0 ∷ []) _ _ (Some 0 ∷ None ∷ []) apart_lawful apart_lawful same_lists
    (omega arith) apart_best apart_best.stable adds)
  where
    projects : (p : ℕ) → at_project (Some 0 ∷ None ∷ []) p ≤ capacity_of apart p
    projects zero = omega arith
    projects (suc zero) = omega arith
    projects (suc (suc p)) = rw (ne_eqb 0 (suc (suc p)) (λ e. absurd (omega (arith, e)))) (omega arith)

    lecturers : (l : ℕ) → at_lecturer apart (Some 0 ∷ None ∷ []) l ≤ limit_of apart l
    lecturers zero = omega arith
    lecturers (suc l) = rw (ne_eqb 0 (suc l) (λ e. absurd (omega (arith, e)))) (omega arith)

    adds : AddsAndMoves apart (None ∷ Some 1 ∷ []) (Some 0 ∷ None ∷ [])
    adds = record { students = refl; projects = projects; lecturers = lecturers }

-- ---- a complaint about the own project

abbrev WhyNotOfAnyProject : Type 0
WhyNotOfAnyProject =
    (i : Spa) (m : List (Option ℕ)) → IsLawful i → IsMatching i m
    → IsStable i m ↔ ((s p : ℕ) → IsAcceptable i s p → IsTaken i m p s ⊎ IsBusy i m (lecturer_of i p) s)

-- nobody at Tides is ranked above Ben, who has it
pub own_project_is_not_taken_by_others : WhyNotOfAnyProject → ⊥
own_project_is_not_taken_by_others law =
    elim ((law (example honest_list) _ honest_lawful honest_best.stable.matching).0 honest_best.stable 1 tides (omega arith)) [
      | inl taken ↦ omega (arith, (taken.above 1 refl).0)
      | inr busy ↦ omega (arith, (busy.above 1 (tides, refl, refl)).0)
    ]
