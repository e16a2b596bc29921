use Rattle.portal_words.proofs.Base.{IfOk-weaker}
use Rattle.portal_words.proofs.Adds.{Reads-subcommand}
use Rattle.portal_words.proofs.build.with_database.Goals as goal

pub returns : goal.returns
returns c =
    IfOk-weaker c.subcommand.result _ _ (λ m adds a reads. Reads-subcommand _ _ m _ _ reads c.in_ok-of_database.ensures adds)
    c.subcommand.ensures
