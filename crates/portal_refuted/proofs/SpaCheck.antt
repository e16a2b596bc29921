-- Refutes `blocking_pairs` with a list that is empty, stops at the first pair, names one twice or
-- forgets a case, a checker that says the same of every matching, and a `better_off` that finds
-- nobody, or not the first one.
use Rattle.std.proofs.Common.{◌≡◌, ℕ, zero, suc, ◌<◌, ◌↔◌, inl, inr, true, false, List, [], ◌∷◌, Option, Some, None}
use Rattle.std.proofs.Common.{refl, ap, arith, eqb}
use Rattle.std.specs.Prelude.{codes, All, AllPairs, Contains, IsTrue, MatchOption}
use Rattle.std.proofs.lemmas.Bool.{ne_eqb}
use Rattle.spa_model.proofs.OneOnly.{blocks_wants}
use Rattle.spa_model.specs.Spa.{Spa, Blocks, IsOn, IsStable}
use Rattle.spa_model.specs.declared.letter.Letter.{Letter}
use Rattle.spa_model.specs.declared.letter.Letter.TheVariants.{A, B, C}
use Rattle.spa_check.specs.declared.blocking.Block.{Block}
use Rattle.spa_check.specs.Listed.{AreAllBlocks, IsEarlier, IsBetterOff, IsFirstBetterOff}

-- two students ask for one project with two places, and nobody has it
abbrev pub small : Spa
small =
    record {
      student_keys = codes "ann" ∷ codes "ben" ∷ [];
      choices = (0 ∷ []) ∷ (0 ∷ []) ∷ [];
      project_keys = codes "kites" ∷ [];
      lecturers = 0 ∷ [];
      capacities = 2 ∷ [];
      lecturer_keys = codes "lee" ∷ [];
      rankings = (0 ∷ 1 ∷ []) ∷ [];
      limits = 2 ∷ [];
    }

abbrev pub nobody : List (Option ℕ)
nobody = None ∷ None ∷ []

abbrev pub pair : ℕ → Block
pair s = record { student = s; project = 0; letter = A }

ben_blocks : Blocks small nobody 1 0 A
ben_blocks = ((omega arith, _), omega arith, omega arith)

ann_blocks : Blocks small nobody 0 0 A
ann_blocks = ((omega arith, _), omega arith, omega arith)

-- ---- the list

pub first_pair_alone_is_not_complete : AreAllBlocks small nobody (pair 0 ∷ []) → ⊥
first_pair_alone_is_not_complete listed = not_there (listed.complete 1 0 A ben_blocks)
  where
    not_there : Contains (pair 0 ∷ []) (pair 1) → ⊥
    not_there (zero, low, same) = absurd (omega (arith, ap (λ (b : Block). b.student) same))
    not_there (suc k, low, same) = absurd (omega (arith, low))

pub no_pair_is_not_complete : AreAllBlocks small nobody [] → ⊥
no_pair_is_not_complete listed = not_there (listed.complete 0 0 A ann_blocks)
  where
    not_there : Contains [] (pair 0) → ⊥
    not_there (k, low, same) = absurd (omega (arith, low))

pub pair_named_twice_is_not_sorted : AreAllBlocks small nobody (pair 0 ∷ pair 0 ∷ pair 1 ∷ []) → ⊥
pair_named_twice_is_not_sorted listed = elim (listed.sorted 0 1 (pair 0) (omega arith) (omega arith)) [
  | inl less ↦ omega (arith, less)
  | inr same ↦ omega (arith, same.1)
]

pub both_pairs_are_the_list : AreAllBlocks small nobody (pair 0 ∷ pair 1 ∷ [])
both_pairs_are_the_list = record { sound = sound; complete = complete; sorted = sorted }
  where
    past_one : (p : ℕ) → IsOn (0 ∷ []) (suc p) → ⊥
    past_one p h =
        let other : eqb 0 (suc p) ≡ false = ne_eqb 0 (suc p) (λ e. absurd (omega (arith, e))) in
        absurd (omega (arith, rw other at h))

    past_none : 0 < 0 → ⊥
    past_none h = omega (arith, h)

    sound : All (λ (b : Block). Blocks small nobody b.student b.project b.letter) (pair 0 ∷ pair 1 ∷ [])
    sound zero d low = ann_blocks
    sound (suc zero) d low = ben_blocks
    sound (suc (suc k)) d low = absurd (omega (arith, low))

    complete : (s p : ℕ) (x : Letter) → Blocks small nobody s p x
        → Contains (pair 0 ∷ pair 1 ∷ []) (record { student = s; project = p; letter = x })
    complete zero zero A b = (0, omega arith, refl)
    complete (suc zero) zero A b = (1, omega arith, refl)
    complete zero zero B b = absurd (omega (arith, b.2))
    complete zero zero C b = absurd (omega (arith, b.1))
    complete (suc zero) zero B b = absurd (omega (arith, b.2))
    complete (suc zero) zero C b = absurd (omega (arith, b.1))
    complete (suc (suc s)) p x b = absurd (past_none (blocks_wants small nobody (suc (suc s)) p x b).0)
    complete zero (suc p) x b = absurd (past_one p (blocks_wants small nobody zero (suc p) x b).0)
    complete (suc zero) (suc p) x b = absurd (past_one p (blocks_wants small nobody 1 (suc p) x b).0)

    sorted : AllPairs IsEarlier (pair 0 ∷ pair 1 ∷ [])
    sorted zero (suc zero) d less low = inl (omega arith)
    sorted zero zero d less low = absurd (omega (arith, less))
    sorted (suc i) zero d less low = absurd (omega (arith, less))
    sorted (suc i) (suc zero) d less low = absurd (omega (arith, less))
    sorted i (suc (suc j)) d less low = absurd (omega (arith, low))

-- ---- the case of a student who is with the lecturer already

-- Lee takes one student, and has Ann at the second project of her list; the first one is free
abbrev own : Spa
own =
    record {
      student_keys = codes "ann" ∷ [];
      choices = (0 ∷ 1 ∷ []) ∷ [];
      project_keys = codes "kites" ∷ codes "tides" ∷ [];
      lecturers = 0 ∷ 0 ∷ [];
      capacities = 1 ∷ 1 ∷ [];
      lecturer_keys = codes "lee" ∷ [];
      rankings = (0 ∷ []) ∷ [];
      limits = 1 ∷ [];
    }

abbrev second : List (Option ℕ)
second = Some 1 ∷ []

abbrev own_pair : Block
own_pair = record { student = 0; project = 0; letter = B }

own_blocks : Blocks own second 0 0 B
own_blocks = ((omega arith, (omega arith, omega arith)), omega arith, omega arith, inl (1, refl, refl))

pub no_case_at_own_lecturer_is_not_complete : AreAllBlocks own second [] → ⊥
no_case_at_own_lecturer_is_not_complete listed = not_there (listed.complete 0 0 B own_blocks)
  where
    not_there : Contains [] own_pair → ⊥
    not_there (k, low, same) = absurd (omega (arith, low))

pub pair_at_own_lecturer_is_sound : All (λ (b : Block). Blocks own second b.student b.project b.letter)
    (own_pair ∷ [])
pair_at_own_lecturer_is_sound zero d low = own_blocks
pair_at_own_lecturer_is_sound (suc k) d low = absurd (omega (arith, low))

-- ---- `is_stable`

pub not_every_matching_is_stable : (IsTrue true ↔ IsStable own second) → ⊥
not_every_matching_is_stable says = (says.0 refl).unblocked 0 0 B own_blocks

-- ---- `better_off`: Ben alone, the second student, has the project in the other matching
abbrev ben_there : List (Option ℕ)
ben_there = None ∷ Some 0 ∷ []

abbrev no_student : Option ℕ
no_student = None

ben_better : IsBetterOff small nobody ben_there 1
ben_better = (0, refl, _)

pub nobody_better_off_is_refuted : MatchOption no_student ((s : ℕ) → IsBetterOff small nobody ben_there s → ⊥)
    (IsFirstBetterOff small nobody ben_there) → ⊥
nobody_better_off_is_refuted none = none 1 ben_better

pub first_student_is_not_better_off : IsFirstBetterOff small nobody ben_there 0 → ⊥
first_student_is_not_better_off is = absurd (cc (is.better.1))

pub second_student_is_first_better_off : IsFirstBetterOff small nobody ben_there 1
second_student_is_first_better_off = record { better = ben_better; first = first }
  where
    first : (t : ℕ) → t < 1 → IsBetterOff small nobody ben_there t → ⊥
    first zero low (p, at, improves) = absurd (cc at)
    first (suc t) low better = absurd (omega (arith, low))
