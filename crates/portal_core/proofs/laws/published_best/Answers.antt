use Rattle.portal_core.proofs.BestShown.{step_best, run_shows, starts}
use Rattle.portal_core.proofs.laws.published_best.Goals as goal

pub returns : goal.returns
returns c = record { step = step_best; run = run_shows; start = starts }
