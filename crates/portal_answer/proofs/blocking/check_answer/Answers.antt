use Rattle.portal_answer.proofs.blocking.check_answer.Goals as goal

pub lines-requires : goal.lines-requires
lines-requires c = rw c.deref.ensures.value c.in_ok-blocks.ensures.in_range
