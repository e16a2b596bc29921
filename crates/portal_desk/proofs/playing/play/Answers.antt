use Rattle.portal_desk.proofs.Base.{call_model, decision_model}
use Rattle.portal_desk.proofs.InTurn.{uses_on, uses_err}
use Rattle.portal_desk.proofs.Played.{can_do, good_after, performed}
use Rattle.portal_desk.proofs.playing.play.Goals as goal

pub perform_act-requires-clause-can : goal.perform_act-requires-clause-can
perform_act-requires-clause-can g c = λ now.
    let before = c.requires.good (c.in_ok-reply.ensures.looks.uses.clean now) in
    rw (c.in_ok-reply.ensures.looks.same now)
    (can_do _ c.args.code.now (call_model c.args.call.now) (decision_model c.in_ok-reply.field-0) before c.requires.form
    (c.in_ok-reply.ensures.decided now before))

pub returns-in_err-perform_act-clause-uses : goal.returns-in_err-perform_act-clause-uses
returns-in_err-perform_act-clause-uses g c =
    uses_err c.perform_act.result _ _ _ _ (performed _ _ _ _ _ c.args.code.now (call_model c.args.call.now)
    (decision_model c.in_ok-reply.field-0) c.requires.form
    c.in_ok-reply.ensures.looks c.in_ok-reply.ensures.alive
    (λ now. c.in_ok-reply.ensures.decided now (c.requires.good (c.in_ok-reply.ensures.looks.uses.clean now)))
    c.perform_act.ensures.changes)
    c.from_residual-in_err-perform_act.ensures.0

pub returns-clause-uses : goal.returns-clause-uses
returns-clause-uses g c = uses_on _ _ _ _ _
    (performed _ _ _ _ _ c.args.code.now (call_model c.args.call.now)
    (decision_model c.in_ok-reply.field-0) c.requires.form c.in_ok-reply.ensures.looks c.in_ok-reply.ensures.alive
    (λ now. c.in_ok-reply.ensures.decided now (c.requires.good (c.in_ok-reply.ensures.looks.uses.clean now)))
    c.in_ok-perform_act.ensures.changes)

pub returns-clause-good : goal.returns-clause-good
returns-clause-good g c = λ after.
    let now = c.in_ok-perform_act.ensures.changes.uses.clean after in
    let before = c.requires.good (c.in_ok-reply.ensures.looks.uses.clean now) in
    good_after _ _ c.args.code.now (call_model c.args.call.now) (decision_model c.in_ok-reply.field-0) before c.requires.form
    (c.in_ok-reply.ensures.decided now before)
    (rw (c.in_ok-reply.ensures.looks.same now) at (c.in_ok-perform_act.ensures.changes.made after))
