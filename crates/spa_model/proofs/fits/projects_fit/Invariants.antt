use Rattle.spa_model.proofs.Base.{ℕ, ◌<◌, ◌≤◌, at_project, capacity_of}
use Rattle.spa_model.proofs.fits.projects_fit.Given as goal

-- none over capacity so far
abbrev pub invariant-loop-p : goal.invariant-loop-p
invariant-loop-p l = (q : ℕ) → q < l.p → at_project l.projects q ≤ capacity_of l.instance q
