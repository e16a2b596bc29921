use Rattle.portal_rules.proofs.InRound as whole
use Rattle.portal_rules.proofs.laws.catalogue_whole.Goals as goal

pub returns : goal.returns
returns c = λ w good. whole.catalogue_whole w good.sound
