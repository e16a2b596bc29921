use Rattle.sqlite_wal.specs.Files.{image_at}
use Rattle.portal_file.specs.Jobs.{ReportsWorld}
use Rattle.portal_file.proofs.Carried.{reports}
use Rattle.portal_file.proofs.Held.{over_files}
use Rattle.portal_file.proofs.reporting.report_file.Goals as goal

pub returns : goal.returns
returns g c = over_files _ (image_at g.S.Start) ReportsWorld reports c.over_file.result c.over_file.ensures.runs
