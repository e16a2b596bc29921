use Rattle.sqlite_wal.specs.Files.{image_at}
use Rattle.portal_file.proofs.job.over_file.Goals as goal

pub returns-in-Ok-clause-runs : goal.returns-in-Ok-clause-runs
returns-in-Ok-clause-runs g c = c.run_closing.ensures.runs (image_at g.S.Start) c.in-Ok.ensures.found
