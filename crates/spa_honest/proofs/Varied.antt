-- The varied examples: two stable matchings, a swap, and a ranking that pays.
use Rattle.spa_honest.proofs.Base.{◌≡◌, ◌≢◌, ◌≤◌, ℕ, zero, suc, [], ◌∷◌, Some, None, refl, arith, C, Blocks}
use Rattle.spa_honest.proofs.Base.{ranking_of, IsLawful, IsStable, IsBest, ranked_of, cem, bells, kites, tides}
use Rattle.spa_honest.proofs.Base.{IsAsGoodFor, with_rankings, NoRankingPays}
use Rattle.spa_honest.specs.examples.Varied.{lee, two_ways, swap, ranked, popular_first, popular_alone, judged, ben_first}
use Rattle.spa_honest.proofs.Tested.{lawful_by, best_by, stable_by}

pub two_lawful : IsLawful two_ways
two_lawful = lawful_by two_ways refl

-- the students' best, and the lecturers'
pub two_best : IsBest two_ways (Some kites ∷ Some bells ∷ None ∷ [])
two_best = best_by two_ways (ranked_of two_ways two_lawful) (Some kites ∷ Some bells ∷ None ∷ []) refl

pub two_other : IsStable two_ways (Some bells ∷ Some tides ∷ None ∷ [])
two_other = stable_by two_ways (ranked_of two_ways two_lawful) (Some bells ∷ Some tides ∷ None ∷ []) refl

pub swap_lawful : IsLawful swap
swap_lawful = lawful_by swap refl

pub swap_best : IsBest swap (Some tides ∷ Some bells ∷ None ∷ [])
swap_best = best_by swap (ranked_of swap swap_lawful) (Some tides ∷ Some bells ∷ None ∷ []) refl

-- the swap puts Ben at Tides, whom Lee ranks below Cem
pub swap_blocked : Blocks swap (Some bells ∷ Some tides ∷ None ∷ []) cem tides C
swap_blocked = ((omega arith, tt), refl, (1, refl, (omega arith, omega arith)))

pub ranked_lawful : (IsLawful (ranked popular_first judged)) × (IsLawful (ranked popular_first ben_first))
    × (IsLawful (ranked popular_alone judged)) × (IsLawful (ranked popular_alone ben_first))
ranked_lawful = (
  lawful_by (ranked popular_first judged) refl,
  lawful_by (ranked popular_first ben_first) refl,
  lawful_by (ranked popular_alone judged) refl,
  lawful_by (ranked popular_alone ben_first) refl,
)

pub judged_best : IsBest (ranked popular_first judged) (Some tides ∷ None ∷ Some kites ∷ [])
judged_best = best_by (ranked popular_first judged) (ranked_of (ranked popular_first judged) ranked_lawful.0)
    (Some tides ∷ None ∷ Some kites ∷ []) refl

pub paid_best : IsBest (ranked popular_first ben_first) (Some kites ∷ Some tides ∷ Some bells ∷ [])
paid_best = best_by (ranked popular_first ben_first) (ranked_of (ranked popular_first ben_first) ranked_lawful.1)
    (Some kites ∷ Some tides ∷ Some bells ∷ []) refl

pub judged_alone : IsBest (ranked popular_alone judged) (Some tides ∷ None ∷ Some kites ∷ [])
judged_alone = best_by (ranked popular_alone judged) (ranked_of (ranked popular_alone judged) ranked_lawful.2)
    (Some tides ∷ None ∷ Some kites ∷ []) refl

pub unpaid_alone : IsBest (ranked popular_alone ben_first) (None ∷ Some tides ∷ Some kites ∷ [])
unpaid_alone = best_by (ranked popular_alone ben_first) (ranked_of (ranked popular_alone ben_first) ranked_lawful.3)
    (None ∷ Some tides ∷ Some kites ∷ []) refl

-- with Ben first, Lee gets the first two
pub a_ranking_may_pay : NoRankingPays → ⊥
a_ranking_may_pay never =
    let no_more : 2 ≤ 1 = never (ranked popular_first judged) (ben_first ∷ (cem ∷ []) ∷ []) lee (Some tides ∷ None ∷ Some kites ∷ [])
    (Some kites ∷ Some tides ∷ Some bells ∷ []) ranked_lawful.0 ranked_lawful.1 others judged_best paid_best as_good 2 in
    omega (arith, no_more)
  where
    others : (k : ℕ) → k ≢ lee → ranking_of (with_rankings (ranked popular_first judged) (ben_first ∷ (cem ∷ []) ∷ [])) k
        ≡ ranking_of (ranked popular_first judged) k
    others zero other = absurd (other refl)
    others (suc k) other = refl

    as_good : IsAsGoodFor (ranked popular_first judged) lee (Some kites ∷ Some tides ∷ Some bells ∷ [])
        (Some tides ∷ None ∷ Some kites ∷ [])
    as_good zero = omega arith
    as_good (suc zero) = omega arith
    as_good (suc (suc zero)) = omega arith
    as_good (suc (suc (suc zero))) = omega arith
    as_good (suc (suc (suc (suc k)))) = omega arith
