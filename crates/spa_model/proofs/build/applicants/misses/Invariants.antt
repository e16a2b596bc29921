use Rattle.spa_model.proofs.Base.{◌≡◌, None, IsLeastOf, BadBelow, lecturer_of_row, row_at, rank_at}
use Rattle.spa_model.proofs.build.applicants.misses.Given as goal

-- the least row so far
abbrev pub invariant-loop-choice : goal.invariant-loop-choice
invariant-loop-choice l = IsLeastOf (BadBelow l.choices (λ p. row_at l.lines (lecturer_of_row l.projects p))
    (λ _ p. rank_at l.lecturers (lecturer_of_row l.projects p) l.student ≡ None) l.choice-index) l.best
