use Rattle.portal_desk.proofs.Base.{refl, call_model, decision_model, reply_model}
use Rattle.portal_desk.proofs.Sheet.{whole_decision}
use Rattle.portal_desk.proofs.playing.decide_whole.Goals as goal

pub returns-clause-decided : goal.returns-clause-decided
returns-clause-decided c =
    whole_decision c.args.view.now (call_model c.args.call.now) (decision_model c.in-Ok.field-0) _
    (reply_model c.in-Ok-reply_with_sheet.reply) c.in-Ok.ensures.decided c.in-Ok-reply_with_sheet.ensures.told refl
