use Rattle.spa_model.proofs.Base.{◌≡◌, ℕ, ◌<◌, get_or, lecturer_of_row}
use Rattle.spa_model.proofs.build.applicants.finds.Given as goal

-- none so far
abbrev pub invariant-loop-choice : goal.invariant-loop-choice
invariant-loop-choice l = (k p : ℕ) → k < l.choice-index → get_or l.choices k p ≡ p → lecturer_of_row l.projects p ≡ l.lecturer → ⊥
