use Rattle.portal_frame.proofs.Unique.{Opens-unique}
use Rattle.portal_frame.proofs.laws.opens_once.Goals as goal

pub returns : goal.returns
returns c = Opens-unique
