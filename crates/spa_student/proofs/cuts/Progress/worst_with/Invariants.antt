use Rattle.spa_student.proofs.Base.{ℕ, ◌≤◌, ◌<◌, get_or, IsWith, ranking_of, lecturer_of}
use Rattle.spa_student.proofs.cuts.Progress.worst_with.Given as goal

-- nobody later on the list is there, of those who are not cut
abbrev pub invariant-loop-k : goal.invariant-loop-k
invariant-loop-k l = (j : ℕ) → l.k ≤ j → j < get_or l.self.lecturer_cuts.items (lecturer_of l.instance l.p) 0
    → IsWith l.instance l.self.projects.items (lecturer_of l.instance l.p) (get_or (ranking_of l.instance (lecturer_of l.instance l.p)) j 0)
    → ⊥
