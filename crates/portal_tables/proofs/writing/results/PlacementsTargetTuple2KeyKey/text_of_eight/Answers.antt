use Rattle.portal_tables.proofs.Base.{refl}
use Rattle.portal_tables.proofs.Statements.{pairs_added, pair_eight, by_eight}
use Rattle.portal_tables.proofs.writing.results.PlacementsTargetTuple2KeyKey.text_of_eight.Goals as goal

pub returns : goal.returns
returns g c = pairs_added g.S.Store 8 _ _ pair_eight (by_eight (λ a b c d e f g h more. refl))
