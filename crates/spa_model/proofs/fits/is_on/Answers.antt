use Rattle.spa_model.proofs.Fitting.{on_from_answer}
use Rattle.spa_model.proofs.fits.is_on.Goals as goal

pub returns : goal.returns
returns c = on_from_answer c.args.list.now c.args.x c.contains.result c.contains.ensures.cases
