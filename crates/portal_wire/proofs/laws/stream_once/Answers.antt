use Rattle.portal_wire.proofs.Once.{once}
use Rattle.portal_wire.specs.Conversation.{connection_limit}
use Rattle.portal_wire.proofs.laws.stream_once.Goals as goal

pub returns : goal.returns
returns c = λ bytes asked others end last closing text x y. once connection_limit bytes asked others x.0 y.0 end last closing text x.1 y.1
    x.2 y.2
