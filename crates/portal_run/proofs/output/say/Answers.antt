use Rattle.portal_run.proofs.Base.{inr}
use Rattle.portal_run.proofs.Written.{failed}
use Rattle.portal_run.proofs.output.say.Goals as goal

pub returns-clause-says : goal.returns-clause-says
returns-clause-says g c = inr (failed _ _ _ c.args.text.now c.write_flushed.ensures.front c.write_whole.ensures.front)
