use Rattle.portal_tables.proofs.Base.{refl}
use Rattle.portal_tables.proofs.Statements.{pairs_added, pair_one, by_one}
use Rattle.portal_tables.proofs.writing.results.PlacementsTargetTuple2KeyKey.text.Goals as goal

pub returns : goal.returns
returns g c = pairs_added g.S.Store 1 _ _ pair_one (by_one (λ a more. refl))
