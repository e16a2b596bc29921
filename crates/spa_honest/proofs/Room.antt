-- More room harms nobody, where the lecturers' limits grow with the places of their projects.
use Rattle.spa_honest.proofs.Base.{◌≡◌, inl, inr, ℕ, zero, suc, ◌+◌, ◌-◌, Bool, true, false, cond, eqb, List, length}
use Rattle.spa_honest.proofs.Base.{get_or, Option, refl, arith, cases_Bool, Spa, project_of, lecturer_of, capacity_of}
use Rattle.spa_honest.proofs.Base.{IsMatching, IsAsGood, IsStable, IsBest, IsRanked, sum_below, sum_below-le, share}
use Rattle.spa_honest.proofs.Base.{at_lecturer-sum, with_room, GivesRoom, places_among}
use Rattle.spa_honest.proofs.Outside.{outside, Grown, growth, place_share, places_sum, share_most}
use Rattle.spa_honest.proofs.Last.{not_better, gains, turned_away}

module _ (i : Spa) (capacities limits : List ℕ) (gives : GivesRoom i (with_room i capacities limits)) where
  -- what is added to a lecturer's projects
  added : (l n : ℕ)
      → sum_below (growth (with_room i capacities limits) i.capacities l) n + places_among i l n
      ≡ places_among (with_room i capacities limits) l n
  added l zero = refl
  added l (suc n) = omega (arith, added l n, one n (eqb (lecturer_of i n) l))
    where
      one : (q : ℕ) (b : Bool)
          → cond b (get_or capacities q 0 - capacity_of i q) 0 + cond b (capacity_of i q) 0 ≡ cond b (get_or capacities q 0) 0
      one q true = omega (arith, gives.projects q)
      one q false = refl

  grown : Grown (with_room i capacities limits) i.capacities i.limits
  grown = record {
    capacities = gives.projects;
    limits = λ l. elim (gives.lecturers l) [
      | inl more ↦ inl (omega (arith, more, added l (length i.lecturers)))
      | inr enough ↦ inr enough
    ];
  }

  there : (m : List (Option ℕ)) → IsRanked i → IsStable i m → IsMatching (with_room i capacities limits) m
  there m law stable = record {
    students = stable.matching.students;
    acceptable = stable.matching.acceptable;
    projects = λ q. omega (arith, stable.matching.projects q, gives.projects q);
    lecturers = λ l. elim (gives.lecturers l) [
      | inl more ↦ omega (arith, more, stable.matching.lecturers l, added l (length i.lecturers))
      | inr enough ↦ omega (
        arith,
        enough,
        added l (length i.lecturers),
        places_sum i l (length i.lecturers),
        sum_below-le (share i m l) (place_share i l) (length i.lecturers) (share_most i m stable.matching.projects l),
        at_lecturer-sum i l (length i.lecturers) m (λ s q e. law.known s q (stable.matching.acceptable s q e)),
      )
    ];
  }

-- NOBODY GETS ANYTHING WORSE
pub more_room : (i : Spa) (capacities limits : List ℕ) (m n : List (Option ℕ)) → IsRanked i
    → IsRanked (with_room i capacities limits) → GivesRoom i (with_room i capacities limits) → IsStable i m
    → IsBest (with_room i capacities limits) n → (s : ℕ) → IsAsGood i s (project_of n s) (project_of m s)
more_room i capacities limits m n lawful law gives stable best s = elim (cases_Bool (gains (with_room i capacities limits) n m s)) [
  | inr misses ↦ not_better (with_room i capacities limits) s (project_of m s) (project_of n s) (λ q e. stable.matching.acceptable s q e)
      (λ q e. best.stable.matching.acceptable s q e) misses
  | inl meets ↦ absurd (
      let y = turned_away (with_room i capacities limits) law n best m (there i capacities limits gives m lawful stable) s meets in
      outside (with_room i capacities limits) law i.capacities i.limits (grown i capacities limits gives)
      (gains (with_room i capacities limits) n m) m y.0 y.1 stable.matching (λ t u k out. stable.unblocked t u k)
      )
]
