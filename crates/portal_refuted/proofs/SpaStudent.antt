-- Refutes `solve` with a matching that is empty, lacks the last student, lets go the wrong one,
-- overfills a lecturer, or is the lecturers' best.
use Rattle.std.proofs.Common.{◌≡◌, ℕ, zero, suc, ◌≤◌, ◌<◌, inl, inr, List, [], ◌∷◌, Option, Some, None, refl, arith}
use Rattle.std.proofs.Common.{subst, eqb, false}
use Rattle.std.specs.Prelude.{codes}
use Rattle.spa_model.specs.Spa.{Spa, IsBest, IsLawful, Wants, IsAcceptable, IsStable, IsMatching, project_of}
use Rattle.spa_model.specs.Spa.{at_project, at_lecturer}
use Rattle.spa_model.specs.Spa.{capacity_of, limit_of}
use Rattle.spa_model.proofs.OneOnly.{blocks_wants}
use Rattle.spa_model.specs.declared.letter.Letter.TheVariants.{A, B}
use Rattle.std.proofs.lemmas.Bool.{ne_eqb}
use Rattle.spa_student.proofs.Machine.{ranked_of}
use Rattle.spa_honest.proofs.Tested.{lawful_by, best_by}

-- ---- a lecturer over capacity

-- Lee takes one student; Ann, whom Lee ranks higher, lists Kites, and Ben lists Tides
abbrev pub one_place : Spa
one_place =
    record {
      student_keys = codes "ann" ∷ codes "ben" ∷ [];
      choices = (0 ∷ []) ∷ (1 ∷ []) ∷ [];
      project_keys = codes "kites" ∷ codes "tides" ∷ [];
      lecturers = 0 ∷ 0 ∷ [];
      capacities = 1 ∷ 1 ∷ [];
      lecturer_keys = codes "lee" ∷ [];
      rankings = (0 ∷ 1 ∷ []) ∷ [];
      limits = 1 ∷ [];
    }

one_place_lawful : IsLawful one_place
one_place_lawful = lawful_by one_place refl

pub ann_alone_is_best : IsBest one_place (Some 0 ∷ None ∷ [])
ann_alone_is_best = best_by one_place (ranked_of one_place one_place_lawful) (Some 0 ∷ None ∷ []) refl

pub empty_matching_is_blocked : IsBest one_place (None ∷ None ∷ []) → ⊥
empty_matching_is_blocked best = best.stable.unblocked 0 0 A ((omega arith, _), omega arith, omega arith)

pub wrong_one_let_go_is_blocked : IsBest one_place (None ∷ Some 1 ∷ []) → ⊥
wrong_one_let_go_is_blocked best =
    best.stable.unblocked 0 0 B ((omega arith, _), omega arith, omega arith, inr (1, (1, refl, refl), (omega arith, omega arith)))

pub lecturer_overfilled_is_no_matching : IsBest one_place (Some 0 ∷ Some 1 ∷ []) → ⊥
lecturer_overfilled_is_no_matching best = omega (arith, best.stable.matching.lecturers 0)

pub last_student_dropped_is_no_matching : IsBest one_place (Some 0 ∷ []) → ⊥
last_student_dropped_is_no_matching best = omega (arith, best.stable.matching.students)

-- ---- two stable matchings

-- Ann wants Kites and Ben Tides, of two lecturers who each rank the other one higher
abbrev crossed : Spa
crossed =
    record {
      student_keys = codes "ann" ∷ codes "ben" ∷ [];
      choices = (0 ∷ 1 ∷ []) ∷ (1 ∷ 0 ∷ []) ∷ [];
      project_keys = codes "kites" ∷ codes "tides" ∷ [];
      lecturers = 0 ∷ 1 ∷ [];
      capacities = 1 ∷ 1 ∷ [];
      lecturer_keys = codes "lee" ∷ codes "moe" ∷ [];
      rankings = (1 ∷ 0 ∷ []) ∷ (0 ∷ 1 ∷ []) ∷ [];
      limits = 1 ∷ 1 ∷ [];
    }

crossed_lawful : IsLawful crossed
crossed_lawful = lawful_by crossed refl

-- each student has the first choice
abbrev firsts : List (Option ℕ)
firsts = Some 0 ∷ Some 1 ∷ []

firsts_fit : IsMatching crossed firsts
firsts_fit = record { students = refl; acceptable = acceptable; projects = projects; lecturers = lecturers }
  where
    acceptable : (s p : ℕ) → project_of firsts s ≡ Some p → IsAcceptable crossed s p
    acceptable zero p at = let is : 0 ≡ p = cc at in subst (IsAcceptable crossed 0) is (omega arith)
    acceptable (suc zero) p at = let is : 1 ≡ p = cc at in subst (IsAcceptable crossed 1) is (omega arith)
    acceptable (suc (suc s)) p at = absurd (cc at)

    apart : (n k : ℕ) → n < 2 → eqb n (suc (suc k)) ≡ false
    apart n k low = ne_eqb n (suc (suc k)) (λ e. absurd (omega (arith, e, low)))

    projects : (p : ℕ) → at_project firsts p ≤ capacity_of crossed p
    projects zero = omega arith
    projects (suc zero) = omega arith
    projects (suc (suc p)) = rw (apart 0 p (omega arith), apart 1 p (omega arith)) (omega arith)

    lecturers : (l : ℕ) → at_lecturer crossed firsts l ≤ limit_of crossed l
    lecturers zero = omega arith
    lecturers (suc zero) = omega arith
    lecturers (suc (suc l)) = rw (apart 0 l (omega arith), apart 1 l (omega arith)) (omega arith)

firsts_wanted : (s p : ℕ) → Wants crossed firsts s p → ⊥
firsts_wanted zero p (on, before) = omega (arith, before.0)
firsts_wanted (suc zero) p (on, before) = omega (arith, before.0)
firsts_wanted (suc (suc s)) p (on, before) = omega (arith, on)

pub firsts_are_stable : IsStable crossed firsts
firsts_are_stable = record { matching = firsts_fit; unblocked = λ s p x b. firsts_wanted s p (blocks_wants crossed firsts s p x b) }

pub lecturers_best_is_not_the_students_best : IsBest crossed (Some 1 ∷ Some 0 ∷ []) → ⊥
lecturers_best_is_not_the_students_best best = elim (best.best firsts firsts_are_stable 0) [
  | inl same ↦ omega (arith, same)
  | inr before ↦ omega (arith, before.0)
]
