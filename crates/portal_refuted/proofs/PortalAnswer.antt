-- Refutes answers of `check` and `solve` that find no pair where some block, or whose exit status is
-- another one.
use Rattle.std.proofs.Common.{◌≡◌, List, [], ◌∷◌, Some, None, Err, refl, ap, arith, eqb, false, length}
use Rattle.std.proofs.lemmas.Bool.{ne_eqb}
use Rattle.portal_rolls.specs.declared.fault.RollFault.TheVariants as file
use Rattle.portal_answer.specs.Answer.{OfMatching, OfRead, Output, assignment, blocking}
use Rattle.portal_answer.specs.declared.answer.Task.TheVariants.{Check, Solve}
use Rattle.spa_check.specs.declared.blocking.Block.{Block}
use Rattle.spa_check.specs.Listed.{AreAllBlocks}
use Rattle.portal_refuted.proofs.SpaCheck.{both_pairs_are_the_list, no_pair_is_not_complete, nobody, pair, small}
use Rattle.portal_refuted.proofs.SpaStudent.{ann_alone_is_best, one_place}

-- two pairs block, and the status says that none does
pub no_block_told_of_two_is_refuted : (told : Output) → told.status ≡ 0 → OfMatching Check small nobody told → ⊥
no_block_told_of_two_is_refuted told zero (blocks, all, is) = by_list blocks all is
  where
    by_list : (bs : List Block) → AreAllBlocks small nobody bs → told ≡ blocking small bs → ⊥
    by_list [] all is = no_pair_is_not_complete all
    by_list (b ∷ bs) all is =
        let some : eqb (length (b ∷ bs)) 0 ≡ false = ne_eqb (length (b ∷ bs)) 0 (λ e. absurd (omega (arith, e))) in
        omega (arith, zero, rw some at (ap (λ (o : Output). o.status) is))

pub both_blocks_are_told : OfMatching Check small nobody (blocking small (pair 0 ∷ pair 1 ∷ []))
both_blocks_are_told = (pair 0 ∷ pair 1 ∷ [], both_pairs_are_the_list, refl)

pub failure_told_of_a_solution_is_refuted : (told : Output) → told.status ≡ 1
    → OfMatching Solve one_place (None ∷ None ∷ []) told → ⊥
failure_told_of_a_solution_is_refuted told one (m, best, is) = omega (arith, one, ap (λ (o : Output). o.status) is)

pub best_matching_is_told : OfMatching Solve one_place (None ∷ None ∷ []) (assignment one_place (Some 0 ∷ None ∷ []))
best_matching_is_told = (Some 0 ∷ None ∷ [], ann_alone_is_best, refl)

pub success_told_of_a_file_without_a_header_is_refuted : (told : Output) → told.status ≡ 0
    → OfRead Check (Err file.NoHeader) told → ⊥
success_told_of_a_file_without_a_header_is_refuted told zero is = omega (arith, zero, ap (λ (o : Output). o.status) is)
