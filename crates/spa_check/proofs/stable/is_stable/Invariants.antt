use Rattle.spa_check.proofs.Base.{ℕ, ◌<◌, Letter, Blocks}
use Rattle.spa_check.proofs.stable.is_stable.Given as goal

-- no student so far is in a pair that blocks
abbrev pub invariant-loop-s : goal.invariant-loop-s
invariant-loop-s l = (t p : ℕ) (x : Letter) → t < l.s → Blocks l.instance l.matching t p x → ⊥
