use Rattle.portal_words.proofs.Base.{rules, IfOk-weaker, Reads, top_app}
use Rattle.portal_words.proofs.Adds.{Reads-subcommand}
use Rattle.portal_words.proofs.build.with_files.Goals as goal

pub returns : goal.returns
returns c =
    let top : Reads c.subcommand_required.result top_app = search rules in
    let check = Reads-subcommand _ _ _ _ _ top c.in_ok-check.ensures c.in_ok-subcommand.ensures in
    IfOk-weaker c.subcommand-2.result _ _ (λ m adds. Reads-subcommand _ _ m _ _ check c.in_ok-solve.ensures adds) c.subcommand-2.ensures
