use Rattle.std.proofs.Common.{rules}
use Rattle.portal_desk.proofs.Base.{sym, ◌∙◌}
use Rattle.portal_desk.proofs.Played.{acted}
use Rattle.portal_desk.proofs.desk.Desk.respond.Goals as goal

pub returns-in-Ok-clause-counts : goal.returns-in-Ok-clause-counts
returns-in-Ok-clause-counts g c = search rules

pub returns-in-Ok-clause-acted : goal.returns-in-Ok-clause-acted
returns-in-Ok-clause-acted g c = rw (sym c.self.view_is, c.record_outcome.ensures.keeper)
    (acted c.play-outcome.result _ _ _ _ _ _ c.record_outcome.result
    (c.as_slice.ensures.value ∙ c.in-Ok.ensures.code) c.in-Ok.ensures.wish c.play-outcome.ensures.uses
    c.play-outcome.ensures.alive c.play-outcome.ensures.step c.play-outcome.ensures.same c.record_outcome.ensures.reply)
