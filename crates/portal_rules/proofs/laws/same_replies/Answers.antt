use Rattle.portal_rules.proofs.Hearing as hearing
use Rattle.portal_rules.proofs.laws.same_replies.Goals as goal

pub returns : goal.returns
returns c = record { same = hearing.same_replies; answered = hearing.answered_to }
