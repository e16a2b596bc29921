use Rattle.portal_file.proofs.Chained.{kept}
use Rattle.portal_file.proofs.laws.kept_over_files.Goals as goal

pub returns : goal.returns
returns c = kept c.run_good.ensures c.published_best.ensures.step c.published_best.ensures.run
