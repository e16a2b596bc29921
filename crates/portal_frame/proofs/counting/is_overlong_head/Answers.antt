use Rattle.portal_frame.proofs.Base.{ap, ◌∙◌, nat_le}
use Rattle.portal_frame.proofs.HeadLines.{counted_is}
use Rattle.portal_frame.proofs.counting.is_overlong_head.Goals as goal

pub returns : goal.returns
returns c = ap (nat_le 34) (c.lines_in.ensures ∙ counted_is c.args.bytes.now)
