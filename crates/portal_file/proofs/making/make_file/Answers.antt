use Rattle.sqlite_wal.specs.Files.{image_at}
use Rattle.portal_file.specs.Jobs.{MakesTables}
use Rattle.portal_file.proofs.Carried.{makes}
use Rattle.portal_file.proofs.Held.{over_files}
use Rattle.portal_file.proofs.making.make_file.Goals as goal

pub returns : goal.returns
returns g c = over_files _ (image_at g.S.Start) (MakesTables c.args.office)
    (makes c.args.office) c.over_file.result c.over_file.ensures.runs
