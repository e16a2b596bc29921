use Rattle.spa_student.proofs.Base.{◌≡◌, ℕ, ◌≤◌, ◌<◌, get_or, Some, project_of, ranking_of, lecturer_of}
use Rattle.spa_student.proofs.cuts.Progress.worst_at.Given as goal

-- nobody later on the list is there, of those who are not cut
abbrev pub invariant-loop-k : goal.invariant-loop-k
invariant-loop-k l = (j : ℕ) → l.k ≤ j → j < get_or l.self.project_cuts.items l.p 0
    → project_of l.self.projects.items (get_or (ranking_of l.instance (lecturer_of l.instance l.p)) j 0) ≡ Some l.p → ⊥
