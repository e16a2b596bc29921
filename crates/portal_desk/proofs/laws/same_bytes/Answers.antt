use Rattle.portal_desk.proofs.Heeding as heeding
use Rattle.portal_desk.proofs.laws.same_bytes.Goals as goal

pub returns : goal.returns
returns c = record { replies = heeding.like_all; places = heeding.same_places }
