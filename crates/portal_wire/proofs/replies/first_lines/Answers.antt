use Rattle.portal_wire.proofs.Base.{refl}
use Rattle.portal_rules.proofs.Pieces.{said}
use Rattle.portal_wire.specs.Conversation.{common_lines}
use Rattle.portal_wire.proofs.replies.first_lines.Goals as goal

pub returns : goal.returns
unfolding common_lines
returns c = said c.format.result _ _ c.format.ensures.ok (rw (c.phrase-phrase.ensures, c.content_type-kind.ensures) refl)
