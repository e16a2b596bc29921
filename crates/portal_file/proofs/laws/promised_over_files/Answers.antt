use Rattle.portal_file.proofs.Chained.{promised}
use Rattle.portal_file.proofs.laws.promised_over_files.Goals as goal

pub returns : goal.returns
returns c = promised c.run_good.ensures c.published_best.ensures.step c.published_best.ensures.run
