use Rattle.spa_check.proofs.Base.{ℕ, ◌<◌, IsWith, IsBefore, ranking_of}
use Rattle.spa_check.proofs.stable.has_worse_with.Given as goal

-- none so far
abbrev pub invariant-loop-t : goal.invariant-loop-t
invariant-loop-t l = (k : ℕ) → k < l.t → IsWith l.instance l.matching l.l k → IsBefore (ranking_of l.instance l.l) l.s k → ⊥
