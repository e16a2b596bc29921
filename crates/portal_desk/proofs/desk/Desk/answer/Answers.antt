use Rattle.portal_desk.proofs.Base.{◌≡◌, ◌∙◌, ◌||◌, sym, reply_model, request_content}
use Rattle.portal_desk.proofs.Moving.{acted_as}
use Rattle.portal_desk.proofs.Sent.{broke, still}
use Rattle.portal_desk.proofs.desk.Desk.answer.Goals as goal
use Rattle.portal_desk.proofs.desk.Desk.answer.Goals.{then-closes, else-closes}

pub returns-in-Err-clause-err : goal.returns-in-Err-clause-err
returns-in-Err-clause-err g c =
    let shut : c.if-closes.shut ≡ (c.args.closes || c.failed-lost.result) =
    elim c.if-closes.branch [
      | then-closes w ↦ rw w.if-closes.true
          (w.shut-is ∙ w.if-closes.true)
      | else-closes w ↦ rw w.if-closes.false w.shut-is
    ] in (
      reply_model c.respond-reply.result,
      acted_as _ _ c.args.request.now.close c.args.closes (request_content c.args.request.now) _ c.respond-reply.ensures.acted,
      broke c.in-Err.cause _ _ _ c.args.closes _ _
          (rw (c.asks_head.ensures, shut, c.failed-lost.ensures.failed) at c.in-Err.ensures.writes),
    )

pub returns-clause-ok : goal.returns-clause-ok
returns-clause-ok g c =
    let calm = sym c.failed-lost.ensures.failed ∙ c.if-lost.false in
    let shut : c.if-closes.shut ≡ (c.args.closes || c.failed-lost.result) =
    elim c.if-closes.branch [
      | then-closes w ↦ rw w.if-closes.true
          (w.shut-is ∙ w.if-closes.true)
      | else-closes w ↦ rw w.if-closes.false w.shut-is
    ] in (
      reply_model c.respond-reply.result,
      acted_as _ _ c.args.request.now.close c.args.closes (request_content c.args.request.now) _ c.respond-reply.ensures.acted,
      (calm, still _ _ _ _ c.args.closes _ calm (rw (c.asks_head.ensures, shut, c.failed-lost.ensures.failed) at c.in-Ok.ensures.writes)),
    )
