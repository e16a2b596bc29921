-- Refutes wrong forms of the laws of stable matchings, each by an instance.
use Rattle.spa_honest.proofs.Base.{◌≡◌, ◌≢◌, ◌≤◌, ◌<◌, inl, inr, ℕ, zero, suc, List, [], ◌∷◌, set, Option, Some, None, refl, arith}
use Rattle.spa_honest.proofs.Base.{A, Letter, Spa, IsLawful, IsMatching, IsStable, IsBest, IsAsGood, IsAcceptable}
use Rattle.spa_honest.proofs.Base.{Blocks, HasRoom, ranked_of}
use Rattle.spa_honest.proofs.Base.{choices_of, project_of, lecturer_of, at_project, at_lecturer, capacity_of}
use Rattle.spa_honest.proofs.Base.{limit_of, DifferInLists, first_with}
use Rattle.spa_honest.proofs.Base.{ann, cem, bells, kites, tides}
use Rattle.spa_honest.proofs.Base.{ranking_of, eqb, ne_eqb, false, IsWith, IsBefore}
use Rattle.std.specs.Prelude.{codes}
use Rattle.spa_honest.specs.Honest.{OrderAlike}
use Rattle.spa_honest.proofs.Lists.{one_on}
use Rattle.spa_honest.specs.examples.Varied.{varied, lee, two_ways, swap}
use Rattle.spa_honest.proofs.Varied.{two_lawful, two_best, two_other, swap_lawful, swap_best}
use Rattle.spa_honest.proofs.Tested.{lawful_by, best_by, stable_by}

-- ---- same_assigned: as many at each project, also of a full lecturer
abbrev AsManyEverywhere : Type 0
AsManyEverywhere =
    (i : Spa) (m n : List (Option ℕ)) (p : ℕ) → IsLawful i → IsStable i m → IsStable i n
    → at_project m p ≡ at_project n p

pub full_lecturers_projects_differ : AsManyEverywhere → ⊥
full_lecturers_projects_differ law =
    let same : 1 ≡ 0 = law two_ways (Some kites ∷ Some bells ∷ None ∷ [])
    (Some bells ∷ Some tides ∷ None ∷ []) kites two_lawful two_best.stable two_other in
    omega (arith, same)

-- and the same students at each project of a lecturer with room, also a full one: Ann and Ben have
-- each other's project, and each lecturer takes one more
abbrev SameStudentsIfFull : Type 0
SameStudentsIfFull =
    (i : Spa) (m n : List (Option ℕ)) (s p : ℕ) → IsLawful i → IsStable i m → IsStable i n
    → at_lecturer i m (lecturer_of i p) < limit_of i (lecturer_of i p) → project_of m s ≡ Some p
    → project_of n s ≡ Some p

abbrev crossed : Spa
crossed = varied
    ((kites ∷ bells ∷ []) ∷ (bells ∷ kites ∷ []) ∷ [] ∷ [])
    ((1 ∷ 0 ∷ []) ∷ (0 ∷ 1 ∷ []) ∷ [])
    (2 ∷ 2 ∷ [])

crossed_lawful : IsLawful crossed
crossed_lawful = lawful_by crossed refl

pub full_projects_students_differ : SameStudentsIfFull → ⊥
full_projects_students_differ law =
    let same = law crossed (Some kites ∷ Some bells ∷ None ∷ []) (Some bells ∷ Some kites ∷ None ∷ []) ann kites crossed_lawful
    (stable_by crossed (ranked_of crossed crossed_lawful) (Some kites ∷ Some bells ∷ None ∷ []) refl)
    (stable_by crossed (ranked_of crossed crossed_lawful) (Some bells ∷ Some kites ∷ None ∷ []) refl) (omega arith) refl in
    let number : bells ≡ kites = cc in
    omega (arith, number)

-- ---- lecturers_worst: the other way round
abbrev LecturersBest : Type 0
LecturersBest =
    (i : Spa) (m n : List (Option ℕ)) (l k : ℕ) → IsLawful i → IsBest i m → IsStable i n
    → first_with i n l k ≤ first_with i m l k

pub lecturers_best_is_wrong : LecturersBest → ⊥
lecturers_best_is_wrong law =
    let no_more : 1 ≤ 0 = law two_ways (Some kites ∷ Some bells ∷ None ∷ [])
    (Some bells ∷ Some tides ∷ None ∷ []) lee 1 two_lawful two_best two_other in
    omega (arith, no_more)

-- nor is everybody whom a lecturer gains ranked above everybody whom the lecturer loses, as with hospitals:
-- Lee gains Cem for Ann at Kites, and Dan for Ben at Tides, and ranks Cem, Ann, Dan, Ben
abbrev EveryGainedAboveEveryLost : Type 0
EveryGainedAboveEveryLost =
    (i : Spa) (m n : List (Option ℕ)) (l s t : ℕ) → IsLawful i → IsBest i m → IsStable i n → IsWith i n l s
    → (IsWith i m l s → ⊥) → IsWith i m l t → (IsWith i n l t → ⊥) → IsBefore (ranking_of i l) s t

abbrev two_trades : Spa
two_trades = record (varied
    ((kites ∷ bells ∷ []) ∷ (tides ∷ bells ∷ []) ∷ (bells ∷ kites ∷ []) ∷ (bells ∷ tides ∷ []) ∷ [])
    ((2 ∷ 0 ∷ 3 ∷ 1 ∷ []) ∷ (0 ∷ 1 ∷ 2 ∷ 3 ∷ []) ∷ [])
    (2 ∷ 2 ∷ [])) { student_keys = codes "ann" ∷ codes "ben" ∷ codes "cem" ∷ codes "dan" ∷ []; capacities = 2 ∷ 1 ∷ 1 ∷ [] }

abbrev firsts : List (Option ℕ)
firsts = Some kites ∷ Some tides ∷ Some bells ∷ Some bells ∷ []

abbrev seconds : List (Option ℕ)
seconds = Some bells ∷ Some bells ∷ Some kites ∷ Some tides ∷ []

trades_lawful : IsLawful two_trades
trades_lawful = lawful_by two_trades refl

trades_best : IsBest two_trades firsts
trades_best = best_by two_trades (ranked_of two_trades trades_lawful) firsts refl

-- who has Bells is not with Lee
with_moe : (m : List (Option ℕ)) (s : ℕ) → project_of m s ≡ Some bells → IsWith two_trades m lee s → ⊥
with_moe m s at own = let same : bells ≡ own.0 = (let e = own.1 in cc) in let wrong : 1 ≡ 0 = rw (← same) at own.2 in omega (arith, wrong)

pub one_gained_below_one_lost : EveryGainedAboveEveryLost → ⊥
one_gained_below_one_lost law =
    let above : IsBefore (2 ∷ 0 ∷ 3 ∷ 1 ∷ []) 3 0 = law two_trades firsts seconds lee 3 0 trades_lawful trades_best
    (stable_by two_trades (ranked_of two_trades trades_lawful) seconds refl)
    (tides, refl, refl) (with_moe firsts 3 refl) (kites, refl, refl) (with_moe seconds 0 refl) in
    omega (arith, above.0)

-- ---- left_finds_none: of any listed project, not of those above the own one
abbrev NoneListedHasRoom : Type 0
NoneListedHasRoom =
    (i : Spa) (m : List (Option ℕ)) (s p : ℕ) → IsLawful i → IsStable i m → IsAcceptable i s p → HasRoom i m p → ⊥

-- Ann alone, with the first of two projects
abbrev ann_alone : Spa
ann_alone = varied ((kites ∷ bells ∷ []) ∷ [] ∷ [] ∷ []) ((0 ∷ []) ∷ (0 ∷ []) ∷ []) (2 ∷ 1 ∷ [])

ann_alone_lawful : IsLawful ann_alone
ann_alone_lawful = lawful_by ann_alone refl

pub projects_below_have_room : NoneListedHasRoom → ⊥
projects_below_have_room law =
    law ann_alone (Some kites ∷ None ∷ None ∷ []) ann bells ann_alone_lawful
    (stable_by ann_alone (ranked_of ann_alone ann_alone_lawful) (Some kites ∷ None ∷ None ∷ []) refl) (omega arith)
    (omega arith, omega arith)

-- ---- blocked_outside: whoever gains takes from somebody
abbrev SomebodyLoses : Type 0
SomebodyLoses =
    (i : Spa) (m x : List (Option ℕ)) (s : ℕ) → IsLawful i → IsBest i m → IsMatching i x
    → (IsAsGood i s (project_of m s) (project_of x s) → ⊥)
    → (t : ℕ) × (IsAsGood i t (project_of x t) (project_of m t) → ⊥)

swapped : IsMatching swap (Some bells ∷ Some tides ∷ None ∷ [])
swapped = record { students = refl; acceptable = acceptable; projects = projects; lecturers = lecturers }
  where
    acceptable : (s p : ℕ) → project_of (Some bells ∷ Some tides ∷ None ∷ []) s ≡ Some p → IsAcceptable swap s p
    acceptable zero p e = let is : bells ≡ p = cc in rw (← is) (omega arith)
    acceptable (suc zero) p e = let is : tides ≡ p = cc in rw (← is) (omega arith)
    acceptable (suc (suc zero)) p e = absurd (cc)
    acceptable (suc (suc (suc s))) p e = absurd (cc)

    projects : (p : ℕ) → at_project (Some bells ∷ Some tides ∷ None ∷ []) p ≤ capacity_of swap p
    projects zero = omega arith
    projects (suc zero) = omega arith
    projects (suc (suc zero)) = omega arith
    projects (suc (suc (suc p))) =
        let other : (n : ℕ) → n < 3 → eqb n (suc (suc (suc p)))
        ≡ false = λ n low. ne_eqb n (suc (suc (suc p))) (λ e. absurd (omega (arith, e, low))) in
        rw (other 0 (omega arith), other 2 (omega arith)) (omega arith)

    lecturers : (l : ℕ) → at_lecturer swap (Some bells ∷ Some tides ∷ None ∷ []) l ≤ limit_of swap l
    lecturers zero = omega arith
    lecturers (suc zero) = omega arith
    lecturers (suc (suc l)) =
        let other : (n : ℕ) → n < 2 → eqb n (suc (suc l)) ≡ false = λ n low. ne_eqb n (suc (suc l)) (λ e. absurd (omega (arith, e, low))) in
        rw (other 0 (omega arith), other 1 (omega arith)) (omega arith)

pub nobody_loses_by_the_swap : SomebodyLoses → ⊥
nobody_loses_by_the_swap law =
    let one = law swap (Some tides ∷ Some bells ∷ None ∷ [])
    (Some bells ∷ Some tides ∷ None ∷ []) ann swap_lawful swap_best swapped gains in
    one.1 (no_loss one.0)
  where
    gains : IsAsGood swap ann (Some tides) (Some bells) → ⊥
    gains good = elim good [ inl same ↦ omega (arith, same) | inr before ↦ omega (arith, before.0) ]

    no_loss : (t : ℕ) → IsAsGood swap t (project_of (Some bells ∷ Some tides ∷ None ∷ []) t)
        (project_of (Some tides ∷ Some bells ∷ None ∷ []) t)
    no_loss zero = inr (omega arith, omega arith)
    no_loss (suc zero) = inr (omega arith, omega arith)
    no_loss (suc (suc zero)) = tt
    no_loss (suc (suc (suc t))) = tt

-- ---- dropout_stays_local: at the project alone
abbrev OnlyThatProject : Type 0
OnlyThatProject =
    (i : Spa) (m : List (Option ℕ)) (s q t p : ℕ) (k : Letter) → IsLawful i → IsStable i m → project_of m s ≡ Some q
    → t ≢ s → Blocks i (set m s None) t p k → p ≡ q

-- Lee takes one of Ann, at Kites, and Ben, who lists Tides
abbrev one_place : Spa
one_place = varied ((kites ∷ []) ∷ (tides ∷ []) ∷ [] ∷ []) ((0 ∷ 1 ∷ []) ∷ [] ∷ []) (1 ∷ 1 ∷ [])

one_place_lawful : IsLawful one_place
one_place_lawful = lawful_by one_place refl

pub other_projects_of_the_lecturer_too : OnlyThatProject → ⊥
other_projects_of_the_lecturer_too law =
    let same : tides ≡ kites = law one_place (Some kites ∷ None ∷ None ∷ []) ann kites 1 tides A one_place_lawful
    (stable_by one_place (ranked_of one_place one_place_lawful) (Some kites ∷ None ∷ None ∷ []) refl) refl (λ e. omega (arith, e))
    ((omega arith, tt), omega arith, omega arith) in
    omega (arith, same)

-- ---- shorter_never_harm: lists thinned, and not cut at the end
abbrev ThinnedNeverHarm : Type 0
ThinnedNeverHarm =
    (i j : Spa) (t : ℕ) (m n : List (Option ℕ)) → IsLawful i → IsLawful j → DifferInLists i j (λ s. s ≢ t)
    → ((s p : ℕ) → IsAcceptable j s p → IsAcceptable i s p) → IsStable i m → IsBest j n
    → IsAsGood i t (project_of n t) (project_of m t)

-- Ann leaves out Kites, which she could have, and takes Bells from Cem
abbrev whole : Spa
whole = varied ((kites ∷ bells ∷ []) ∷ [] ∷ (bells ∷ []) ∷ []) ((0 ∷ []) ∷ (0 ∷ 2 ∷ []) ∷ []) (2 ∷ 1 ∷ [])

abbrev thinned : Spa
thinned = varied ((bells ∷ []) ∷ [] ∷ (bells ∷ []) ∷ []) ([] ∷ (0 ∷ 2 ∷ []) ∷ []) (2 ∷ 1 ∷ [])

whole_lawful : IsLawful whole
whole_lawful = lawful_by whole refl

thinned_lawful : IsLawful thinned
thinned_lawful = lawful_by thinned refl

pub thinned_lists_harm : ThinnedNeverHarm → ⊥
thinned_lists_harm law =
    law whole thinned cem (Some kites ∷ None ∷ Some bells ∷ []) (Some bells ∷ None ∷ None ∷ []) whole_lawful thinned_lawful differ fewer
    (stable_by whole (ranked_of whole whole_lawful) (Some kites ∷ None ∷ Some bells ∷ []) refl)
    (best_by thinned (ranked_of thinned thinned_lawful) (Some bells ∷ None ∷ None ∷ []) refl)
  where
    differ : DifferInLists whole thinned (λ s. s ≢ cem)
    differ = record { students = refl; lecturers = refl; capacities = refl; limits = refl; others = others; orders = orders }
      where
        others : (t : ℕ) → (t ≢ cem → ⊥) → choices_of thinned t ≡ choices_of whole t
        others zero same = absurd (same (λ e. omega (arith, e)))
        others (suc t) same = refl

        orders : (l : ℕ) → OrderAlike (ranking_of whole l) (ranking_of thinned l)
        orders zero = λ a b on_a on_b before. absurd (omega (arith, on_a))
        orders (suc l) = λ a b on_a on_b before. before

    fewer : (s p : ℕ) → IsAcceptable thinned s p → IsAcceptable whole s p
    fewer zero p on = let is : bells ≡ p = one_on bells p on in rw (← is) (omega arith)
    fewer (suc s) p on = on
