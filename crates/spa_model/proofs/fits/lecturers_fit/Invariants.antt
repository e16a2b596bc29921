use Rattle.spa_model.proofs.Base.{ℕ, ◌<◌, ◌≤◌, at_lecturer, limit_of}
use Rattle.spa_model.proofs.fits.lecturers_fit.Given as goal

-- none over capacity so far
abbrev pub invariant-loop-l : goal.invariant-loop-l
invariant-loop-l l = (q : ℕ) → q < l.l → at_lecturer l.instance l.projects q ≤ limit_of l.instance q
