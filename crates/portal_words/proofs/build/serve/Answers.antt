use Rattle.portal_words.proofs.Base.{IfOk-weaker}
use Rattle.portal_words.proofs.Adds.{Reads-arg}
use Rattle.portal_words.proofs.build.serve.Goals as goal

pub returns : goal.returns
returns c =
    let port = Reads-arg _ _ _ _ _ c.in_ok-of_database.ensures c.port.ensures.rule c.port.ensures.local c.in_ok-arg.ensures in
    IfOk-weaker c.arg-2.result _ _ (λ m h. Reads-arg _ _ m _ _ port c.connections.ensures.rule c.connections.ensures.local h)
    c.arg-2.ensures
