use Rattle.std.proofs.Common.{rules}
use Rattle.sqlite_wal.specs.Files.{image_at}
use Rattle.portal_file.specs.Jobs.{PipesStream}
use Rattle.portal_file.proofs.Carried.{pipes}
use Rattle.portal_file.proofs.Held.{over_files_with}
use Rattle.portal_file.proofs.piping.pipe_file.Goals as goal

pub returns-clause-pipes : goal.returns-clause-pipes
returns-clause-pipes g c =
    over_files_with _ (image_at g.S.Start)
    (λ reader writer r. PipesStream r (record {
      remaining = g.R.Read.remaining c.args.reader.now;
      left = g.R.Read.remaining reader;
      before = g.W.Write.contents c.args.writer.now;
      after = g.W.Write.contents writer;
    }))
    (λ reader writer. pipes _) _ _ _ _ (search rules) (search rules) c.over_file.result c.over_file.ensures.runs
