use Rattle.portal_run.proofs.Base.{◌∙◌, ap, sym}
use Rattle.portal_run.specs.Databases.{without_return}
use Rattle.portal_run.proofs.FirstLine.{other_at_end, return_at_end}
use Rattle.portal_run.proofs.init.stripped.Goals as goal

pub returns-then-last-eq13 : goal.returns-then-last-eq13
returns-then-last-eq13 c =
    sym (ap without_return c.in-Some.ensures.cases.0 ∙ return_at_end c.in-Some.rest.now c.in-Some.last.now c.if-last-eq13.true)

pub returns-else-last-eq13 : goal.returns-else-last-eq13
returns-else-last-eq13 c =
    other_at_end c.args.line.now c.in-Some.rest.now c.in-Some.last.now c.in-Some.ensures.cases.0 c.if-last-eq13.false
