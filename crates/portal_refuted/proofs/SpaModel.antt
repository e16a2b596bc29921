-- Refutes `Instance::build` and `Matching::build` with a row or a pair left out, or with a constant
-- answer.
use Rattle.std.proofs.Common.{◌≡◌, ℕ, zero, suc, List, [], ◌∷◌, Some, None, refl, arith}
use Rattle.std.specs.Prelude.{codes, All, Any}
use Rattle.spa_rows.specs.Lines.{Rows, Pair}
use Rattle.spa_model.specs.Pairs.{IsInstanceOf, HasPairs, StandsFor, StandsStudent, student_in, project_in}
use Rattle.spa_model.specs.Spa.{Spa, project_of}
use Rattle.spa_honest.specs.examples.Example.{example, honest_list}

-- ---- the instance of two students without a list

abbrev students : Rows
students = record {
  lecturers = [];
  projects = [];
  students = record { row = 1; key = codes "ann"; list = [] } ∷ record { row = 2; key = codes "ben"; list = [] } ∷ [];
}

abbrev of_keys : List (List ℕ) → List (List ℕ) → Spa
of_keys keys choices = record {
  student_keys = keys;
  choices = choices;
  project_keys = [];
  lecturers = [];
  capacities = [];
  lecturer_keys = [];
  rankings = [];
  limits = [];
}

pub instance_without_its_last_student_has_another_count : IsInstanceOf students
    (of_keys (codes "ann" ∷ []) ([] ∷ [])) → ⊥
instance_without_its_last_student_has_another_count is = omega (arith, is.stands.student_count)

pub empty_instance_has_another_count : IsInstanceOf students (of_keys [] []) → ⊥
empty_instance_has_another_count is = omega (arith, is.stands.student_count)

pub both_students_stand : StandsFor students (of_keys (codes "ann" ∷ codes "ben" ∷ []) ([] ∷ [] ∷ []))
both_students_stand = record {
  students = students_stand;
  student_count = refl;
  projects = λ k d low. absurd (omega (arith, low));
  project_count = refl;
  lecturers = λ k d low. absurd (omega (arith, low));
  lecturer_count = refl;
} where
  students_stand : All (StandsStudent (of_keys (codes "ann" ∷ codes "ben" ∷ []) ([] ∷ [] ∷ []))) students.students
  students_stand zero d low = (0, (omega arith, refl), refl)
  students_stand (suc zero) d low = (1, (omega arith, refl), refl)
  students_stand (suc (suc k)) d low = absurd (omega (arith, low))

-- ---- the matching of two pairs

abbrev here : Spa
here = example honest_list

abbrev ben_at_tides : Pair
ben_at_tides = record { row = 1; student = codes "ben"; project = codes "tides" }

abbrev cem_at_bells : Pair
cem_at_bells = record { row = 2; student = codes "cem"; project = codes "bells" }

abbrev pairs : List Pair
pairs = ben_at_tides ∷ cem_at_bells ∷ []

pub matching_without_its_last_pair_lacks_one : HasPairs here pairs (None ∷ Some 2 ∷ None ∷ []) → ⊥
matching_without_its_last_pair_lacks_one has = absurd (cc (has.each 1 ben_at_tides (omega arith)))

pub empty_matching_lacks_one : HasPairs here pairs (None ∷ None ∷ None ∷ []) → ⊥
empty_matching_lacks_one has = absurd (cc (has.each 0 ben_at_tides (omega arith)))

-- Ann is at Bells, and no pair says so
pub matching_of_no_pair_has_none : HasPairs here [] (Some 0 ∷ None ∷ None ∷ []) → ⊥
matching_of_no_pair_has_none has = none (has.no_other 0 0 refl)
  where
    none : Any (λ x. (student_in here x ≡ 0) × (project_in here x ≡ 0)) [] → ⊥
    none (k, x, low, at, same) = omega (arith, low)

pub both_pairs_are_there : HasPairs here pairs (None ∷ Some 2 ∷ Some 0 ∷ [])
both_pairs_are_there = record { students = refl; each = each; no_other = no_other }
  where
    each : All (λ x. project_of (None ∷ Some 2 ∷ Some 0 ∷ []) (student_in here x) ≡ Some (project_in here x)) pairs
    each zero d low = refl
    each (suc zero) d low = refl
    each (suc (suc k)) d low = absurd (omega (arith, low))

    no_other : (s p : ℕ) → project_of (None ∷ Some 2 ∷ Some 0 ∷ []) s ≡ Some p
        → Any (λ x. (student_in here x ≡ s) × (project_in here x ≡ p)) pairs
    no_other zero p at = absurd (cc at)
    no_other (suc zero) p at = let is : 2 ≡ p = cc at in (0, ben_at_tides, omega arith, refl, (refl, is))
    no_other (suc (suc zero)) p at = let is : 0 ≡ p = cc at in (1, cem_at_bells, omega arith, refl, (refl, is))
    no_other (suc (suc (suc s))) p at = absurd (cc at)
