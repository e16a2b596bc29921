use Rattle.spa_student.proofs.Base.{ℕ, ◌≤◌, ◌<◌, get_or, choices_of, IsPastCut}
use Rattle.spa_student.proofs.cuts.Progress.next.Given as goal

-- each entry from the cursor on is cut so far
abbrev pub invariant-loop-k : goal.invariant-loop-k
invariant-loop-k l = (j : ℕ) → get_or l.self.cursors.items l.s 0 ≤ j → j < l.k
    → IsPastCut l.instance l.self l.s (get_or (choices_of l.instance l.s) j 0)
