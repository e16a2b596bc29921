use Rattle.spa_model.proofs.Base.{◌≡◌, ℕ, ◌<◌, Some, project_of, IsAcceptable}
use Rattle.spa_model.proofs.fits.are_acceptable.Given as goal

-- acceptable so far
abbrev pub invariant-loop-s : goal.invariant-loop-s
invariant-loop-s l = (k p : ℕ) → k < l.s → project_of l.projects k ≡ Some p → IsAcceptable l.instance k p
