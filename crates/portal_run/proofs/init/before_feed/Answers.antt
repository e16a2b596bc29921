use Rattle.portal_run.proofs.FirstLine.{line_at, line_whole}
use Rattle.portal_run.proofs.init.before_feed.Goals as goal

pub returns-in-Some : goal.returns-in-Some
returns-in-Some c = line_at c.args.bytes.now c.in-Some.end c.in-Some.ensures.place

pub returns-in-None : goal.returns-in-None
returns-in-None c = line_whole c.args.bytes.now c.in-None.ensures.place
