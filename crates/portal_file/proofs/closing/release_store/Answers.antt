use Rattle.std.proofs.Common.{arith}
use Rattle.sqlite.specs.Files.{file_state}
use Rattle.portal_file.proofs.Held.{left_of}
use Rattle.portal_file.proofs.closing.release_store.Goals as goal

pub returns-clause-comes : goal.returns-clause-comes
returns-clause-comes g c =
    let end = c.into_store.ensures in
    record {
      clean = λ clean. omega (arith, clean, end.quiet.clean);
      holds = λ clean. left_of c.into_store.result (end.numbered clean) (end.sound clean) (file_state c.args.conn) end.quiet.outcomes;
    }
