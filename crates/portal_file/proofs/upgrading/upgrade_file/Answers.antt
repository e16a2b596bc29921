use Rattle.sqlite_wal.specs.Files.{image_at}
use Rattle.portal_file.specs.Jobs.{UpgradesTables}
use Rattle.portal_file.proofs.Carried.{upgrades}
use Rattle.portal_file.proofs.Held.{over_files}
use Rattle.portal_file.proofs.upgrading.upgrade_file.Goals as goal

pub returns : goal.returns
returns g c = over_files _ (image_at g.S.Start) UpgradesTables upgrades c.over_file.result c.over_file.ensures.runs
