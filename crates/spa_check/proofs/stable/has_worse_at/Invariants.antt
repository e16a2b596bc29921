use Rattle.spa_check.proofs.Base.{◌≡◌, ℕ, ◌<◌, Some, project_of, IsBefore, ranking_of, lecturer_of}
use Rattle.spa_check.proofs.stable.has_worse_at.Given as goal

-- none so far
abbrev pub invariant-loop-t : goal.invariant-loop-t
invariant-loop-t l = (k : ℕ) → k < l.t → project_of l.matching k ≡ Some l.p
    → IsBefore (ranking_of l.instance (lecturer_of l.instance l.p)) l.s k → ⊥
