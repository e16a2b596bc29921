use Rattle.portal_store.proofs.Base.{List, map, take, Ok, Key, Does, GoesOn, TurnsAll}
use Rattle.portal_store.proofs.changing.fill.PutRankingsTableChange.take.Given as goal

abbrev pub invariant-loop-ranking : goal.invariant-loop-ranking
invariant-loop-ranking g l = Does g.S.Store
    (GoesOn (TurnsAll l.round (map {B = Key × List Key} (λ f. (f.0, f.1.items)) (take l.ranking-index l.rankings))))
    (Ok (tt {0})) l.fn.tx l.tx
