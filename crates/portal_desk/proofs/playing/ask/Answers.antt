use Rattle.portal_desk.proofs.Base.{call_model, decision, decision_model}
use Rattle.portal_desk.proofs.Played.{of_shown}
use Rattle.portal_desk.proofs.playing.ask.Goals as goal

pub returns-clause-decided : goal.returns-clause-decided
returns-clause-decided g c =
    of_shown _ decision_model (λ v. decision v (call_model c.args.call.now)) _ _ c.in_ok-view.ensures.shown c.decide_whole.ensures.decided
