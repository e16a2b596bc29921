use Rattle.portal_run.proofs.Base.{inl, inr}
use Rattle.portal_run.proofs.init.init.Goals as goal

pub returns-in-Err-Bad-clause-performs : goal.returns-in-Err-Bad-clause-performs
returns-in-Err-Bad-clause-performs g c = inr (inl (rw c.in-Err-Bad.field-0-is at c.in-Err-Bad.ensures.reads, c.say.ensures.says))
