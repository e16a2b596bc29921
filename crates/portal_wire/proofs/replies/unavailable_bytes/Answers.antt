use Rattle.portal_wire.proofs.Base.{rules}
use Rattle.portal_wire.specs.Conversation.{unavailable_body}
use Rattle.portal_wire.proofs.replies.unavailable_bytes.Goals as goal

pub returns : goal.returns
unfolding unavailable_body
returns c = search rules
