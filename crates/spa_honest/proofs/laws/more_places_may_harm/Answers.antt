use Rattle.spa_honest.proofs.Worked.{more_places_may_harm}
use Rattle.spa_honest.proofs.laws.more_places_may_harm.Goals as goal

pub returns : goal.returns
returns c = more_places_may_harm
