use Rattle.spa_check.proofs.Base.{ℕ, ◌<◌, get_or, Letter, Blocks}
use Rattle.spa_check.proofs.stable.is_content.Given as goal

-- no pair so far blocks
abbrev pub invariant-loop-p : goal.invariant-loop-p
invariant-loop-p l = (k : ℕ) (x : Letter) → k < l.p-index → Blocks l.instance l.matching l.s (get_or l.p-items k 0) x → ⊥
