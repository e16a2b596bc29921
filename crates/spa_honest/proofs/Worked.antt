-- The examples: they are lawful with each list, and what is best.
use Rattle.spa_honest.proofs.Base.{◌≤◌, ◌≡◌, inl, inr, ℕ, zero, suc, List, [], ◌∷◌, Some, None, refl, arith, choices_of}
use Rattle.spa_honest.proofs.Base.{IsOn, IsAsGood, IsLawful, IsBest, ranked_of, HasRoom, ann, cem, bells, kites, tides}
use Rattle.spa_honest.proofs.Base.{example, honest_list, safe_list, short_list, DifferInLists, NobodyGains}
use Rattle.spa_honest.proofs.Base.{MorePlacesNeverHarm, with_room, capacity_of}
use Rattle.spa_honest.specs.examples.Waiting.{at_once, second_alone, waiting}
use Rattle.spa_honest.proofs.Tested.{lawful_by, best_by}

pub honest_lawful : IsLawful (example honest_list)
honest_lawful = lawful_by (example honest_list) refl

pub safe_lawful : IsLawful (example safe_list)
safe_lawful = lawful_by (example safe_list) refl

pub short_lawful : IsLawful (example short_list)
short_lawful = lawful_by (example short_list) refl

pub honest_best : IsBest (example honest_list) (Some kites ∷ Some tides ∷ Some bells ∷ [])
honest_best = best_by (example honest_list) (ranked_of (example honest_list) honest_lawful) (Some kites ∷ Some tides ∷ Some bells ∷ []) refl

-- each student has the first choice
pub safe_best : IsBest (example safe_list) (Some bells ∷ Some tides ∷ Some kites ∷ [])
safe_best = best_by (example safe_list) (ranked_of (example safe_list) safe_lawful) (Some bells ∷ Some tides ∷ Some kites ∷ []) refl

-- as with the honest list
pub short_best : IsBest (example short_list) (Some kites ∷ Some tides ∷ Some bells ∷ [])
short_best = best_by (example short_list) (ranked_of (example short_list) short_lawful) (Some kites ∷ Some tides ∷ Some bells ∷ []) refl

-- Bells is not as good for Cem as Kites
no_better : (list_of_ann : List ℕ) → IsAsGood (example list_of_ann) cem (Some bells) (Some kites) → ⊥
no_better list_of_ann good = elim good [ inl same ↦ omega (arith, same) | inr before ↦ omega (arith, before.0) ]

-- with Bells first Ann lets Cem have Kites: one of the group gains
pub one_may_gain : NobodyGains → ⊥
one_may_gain nobody = no_better honest_list
    (nobody (example honest_list) (example safe_list) (ann ∷ cem ∷ []) _ _ honest_lawful safe_lawful differ honest_best safe_best cem
    (omega arith) kites refl (omega arith))
  where
    differ : DifferInLists (example honest_list) (example safe_list) (IsOn (ann ∷ cem ∷ []))
    differ = record {
      students = refl;
      lecturers = refl;
      capacities = refl;
      limits = refl;
      others = others;
      orders = λ l a b on_a on_b before. before;
    }
      where
        others : (t : ℕ) → (IsOn (ann ∷ cem ∷ []) t → ⊥)
            → choices_of (example safe_list) t ≡ choices_of (example honest_list) t
        others zero other = absurd (other (omega arith))
        others (suc t) other = refl

-- ---- a place more

-- Ann lists Tides and Bells, and has Bells; with a second place at Tides Cem has Bells
few_lawful : IsLawful (example (tides ∷ bells ∷ []))
few_lawful = lawful_by (example (tides ∷ bells ∷ [])) refl

many_lawful : IsLawful (with_room (example (tides ∷ bells ∷ [])) (1 ∷ 1 ∷ 2 ∷ []) (2 ∷ 1 ∷ []))
many_lawful = lawful_by (with_room (example (tides ∷ bells ∷ [])) (1 ∷ 1 ∷ 2 ∷ []) (2 ∷ 1 ∷ [])) refl

few_best : IsBest (example (tides ∷ bells ∷ [])) (Some bells ∷ Some tides ∷ Some kites ∷ [])
few_best = best_by (example (tides ∷ bells ∷ [])) (ranked_of (example (tides ∷ bells ∷ [])) few_lawful)
    (Some bells ∷ Some tides ∷ Some kites ∷ []) refl

many_best : IsBest (with_room (example (tides ∷ bells ∷ [])) (1 ∷ 1 ∷ 2 ∷ []) (2 ∷ 1 ∷ [])) (Some tides ∷ Some tides ∷ Some bells ∷ [])
many_best = best_by (with_room (example (tides ∷ bells ∷ [])) (1 ∷ 1 ∷ 2 ∷ []) (2 ∷ 1 ∷ []))
    (ranked_of (with_room (example (tides ∷ bells ∷ [])) (1 ∷ 1 ∷ 2 ∷ []) (2 ∷ 1 ∷ [])) many_lawful)
    (Some tides ∷ Some tides ∷ Some bells ∷ []) refl

-- so Cem loses Kites
pub more_places_may_harm : MorePlacesNeverHarm → ⊥
more_places_may_harm never = no_better (tides ∷ bells ∷ [])
    (never (example (tides ∷ bells ∷ [])) (1 ∷ 1 ∷ 2 ∷ []) _ _ few_lawful many_lawful no_fewer few_best many_best cem)
  where
    no_fewer : (q : ℕ)
        → capacity_of (example (tides ∷ bells ∷ [])) q ≤ capacity_of
        (with_room (example (tides ∷ bells ∷ [])) (1 ∷ 1 ∷ 2 ∷ []) (2 ∷ 1 ∷ [])) q
    no_fewer zero = omega arith
    no_fewer (suc zero) = omega arith
    no_fewer (suc (suc zero)) = omega arith
    no_fewer (suc (suc (suc q))) = omega arith

-- ---- one who waits

pub at_once_lawful : IsLawful at_once
at_once_lawful = lawful_by at_once refl

pub waiting_lawful : IsLawful waiting
waiting_lawful = lawful_by waiting refl

pub at_once_best : IsBest at_once (Some kites ∷ Some tides ∷ Some bells ∷ None ∷ [])
at_once_best = best_by at_once (ranked_of at_once at_once_lawful) (Some kites ∷ Some tides ∷ Some bells ∷ None ∷ []) refl

pub second_lawful : IsLawful second_alone
second_lawful = lawful_by second_alone refl

-- each student but Dan has a project
pub second_best : IsBest second_alone (Some kites ∷ Some tides ∷ Some bells ∷ None ∷ [])
second_best = best_by second_alone (ranked_of second_alone second_lawful) (Some kites ∷ Some tides ∷ Some bells ∷ None ∷ []) refl

-- Cem is put at Kites, and Ann and Dan are left
pub waiting_best : IsBest waiting (None ∷ Some tides ∷ Some kites ∷ None ∷ [])
waiting_best = best_by waiting (ranked_of waiting waiting_lawful) (None ∷ Some tides ∷ Some kites ∷ None ∷ []) refl

-- Bells alone has room then
pub bells_left : HasRoom waiting (None ∷ Some tides ∷ Some kites ∷ None ∷ []) bells
bells_left = (omega arith, omega arith)

pub no_other_left : (p : ℕ) → HasRoom waiting (None ∷ Some tides ∷ Some kites ∷ None ∷ []) p → p ≡ bells
no_other_left zero room = refl
no_other_left (suc zero) room = absurd (omega (arith, room.0))
no_other_left (suc (suc zero)) room = absurd (omega (arith, room.0))
no_other_left (suc (suc (suc p))) room = absurd (omega (arith, room.0))
