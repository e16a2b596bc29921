use Rattle.portal_words.proofs.Base.{IfOk-weaker}
use Rattle.portal_words.proofs.Adds.{Reads-subcommand}
use Rattle.portal_words.proofs.build.with_serve.Goals as goal

pub returns : goal.returns
returns c =
    IfOk-weaker c.subcommand.result _ _ (λ m adds a reads. Reads-subcommand _ _ m _ _ reads c.in_ok-serve.ensures adds) c.subcommand.ensures
