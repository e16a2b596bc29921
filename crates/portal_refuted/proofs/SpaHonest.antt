-- Refutes the law that more room never harms, if a lecturer's limit may grow by one place fewer than
-- the projects do.
use Rattle.spa_honest.proofs.Base.{◌≡◌, ◌≤◌, ◌+◌, ◌⊎◌, inl, inr, ℕ, zero, suc, List, [], ◌∷◌, Option, Some, refl}
use Rattle.spa_honest.proofs.Base.{arith}
use Rattle.spa_honest.proofs.Base.{Spa, IsLawful, IsStable, IsBest, IsAsGood, project_of, ranked_of, capacity_of}
use Rattle.spa_honest.proofs.Base.{limit_of}
use Rattle.spa_honest.proofs.Base.{bells, kites, tides, cem, example, with_room}
use Rattle.spa_honest.specs.Honest.{places_with, GivesRoom}
use Rattle.std.proofs.lemmas.Bool.{ne_eqb}
use Rattle.std.proofs.Common.{◌<◌, eqb, false}
use Rattle.spa_honest.proofs.Tested.{lawful_by, best_by}

-- the edited definition: the lecturer's limit may grow by one place fewer
pub record GivesRoomButOne (i j : Spa) : Type 0 where
  pub projects : (p : ℕ) → capacity_of i p ≤ capacity_of j p
  pub lecturers : (l : ℕ)
      → (limit_of i l + places_with j l ≤ limit_of j l + places_with i l + 1) ⊎ (places_with j l ≤ limit_of j l)

-- the law over it
abbrev pub MoreRoomButOne : Type 0
MoreRoomButOne =
    (i : Spa) (capacities limits : List ℕ) (m n : List (Option ℕ)) → IsLawful i
    → IsLawful (with_room i capacities limits) → GivesRoomButOne i (with_room i capacities limits)
    → IsStable i m → IsBest (with_room i capacities limits) n → (s : ℕ) → IsAsGood i s (project_of n s) (project_of m s)

-- Ann lists Tides and Bells; Tides gets a second place, and Lee none
abbrev few : Spa
few = example (tides ∷ bells ∷ [])

abbrev many : Spa
many = with_room few (1 ∷ 1 ∷ 2 ∷ []) (2 ∷ 1 ∷ [])

few_lawful : IsLawful few
few_lawful = lawful_by few refl

many_lawful : IsLawful many
many_lawful = lawful_by many refl

few_best : IsBest few (Some bells ∷ Some tides ∷ Some kites ∷ [])
few_best = best_by few (ranked_of few few_lawful) (Some bells ∷ Some tides ∷ Some kites ∷ []) refl

many_best : IsBest many (Some tides ∷ Some tides ∷ Some bells ∷ [])
many_best = best_by many (ranked_of many many_lawful) (Some tides ∷ Some tides ∷ Some bells ∷ []) refl

-- with the edit this counts as room enough
wrong_room : GivesRoomButOne few many
wrong_room = record { projects = projects; lecturers = lecturers }
  where
    projects : (p : ℕ) → capacity_of few p ≤ capacity_of many p
    projects zero = omega arith
    projects (suc zero) = omega arith
    projects (suc (suc zero)) = omega arith
    projects (suc (suc (suc p))) = omega arith

    lecturers : (l : ℕ)
        → (limit_of few l + places_with many l ≤ limit_of many l + places_with few l + 1) ⊎
        (places_with many l ≤ limit_of many l)
    lecturers zero = inl (omega arith)
    lecturers (suc zero) = inl (omega arith)
    lecturers (suc (suc l)) =
        let other : (n : ℕ) → n < 2 → eqb n (suc (suc l)) ≡ false = λ n low. ne_eqb n (suc (suc l)) (λ e. absurd (omega (arith, e, low))) in
        inl (rw (other 0 (omega arith), other 1 (omega arith)) (omega arith))

-- Bells is not as good for Cem as Kites
no_better : IsAsGood many cem (Some bells) (Some kites) → ⊥
no_better good = elim good [ inl same ↦ omega (arith, same) | inr before ↦ omega (arith, before.0) ]

pub limit_one_place_short_harms : MoreRoomButOne → ⊥
limit_one_place_short_harms never =
    no_better (never few (1 ∷ 1 ∷ 2 ∷ []) (2 ∷ 1 ∷ []) _ _ few_lawful many_lawful wrong_room few_best.stable many_best cem)

-- the definition as it stands tells it apart
pub limit_one_place_short_is_no_room : GivesRoom few many → ⊥
limit_one_place_short_is_no_room room = elim (room.lecturers 0) [ inl h ↦ omega (arith, h) | inr h ↦ omega (arith, h) ]
