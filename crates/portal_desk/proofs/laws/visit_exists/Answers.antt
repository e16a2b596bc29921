use Rattle.portal_desk.proofs.Existing as existing
use Rattle.portal_desk.proofs.laws.visit_exists.Goals as goal

pub returns : goal.returns
returns c = record { there = existing.visit_there; once = existing.visit_once }
