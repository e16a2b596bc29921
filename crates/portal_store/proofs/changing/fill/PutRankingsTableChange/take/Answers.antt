use Rattle.portal_store.proofs.Base.{List, map, Ok, subst, arith, state, Key, Does, GoesOn, does_none, does_then}
use Rattle.portal_store.proofs.Base.{goes_nowhere, TurnsAll, TurnsThere, take_all}
use Rattle.portal_store.proofs.FillTurns.{none_ranked, rankings_go_on}
use Rattle.portal_store.proofs.changing.fill.PutRankingsTableChange.take.Goals as goal

pub loop-ranking-init : goal.loop-ranking-init
loop-ranking-init g c = does_none g.S.Store _ _ _
    (goes_nowhere _ _ (none_ranked c.args.self.round (state g.S.Store c.args.tx.now.conn.now).now))

pub loop-ranking-preserved : goal.loop-ranking-preserved
loop-ranking-preserved g c =
    let mid = state g.S.Store c.loop-ranking.tx.conn.now in
    let new = state g.S.Store c.take.new.tx.conn.now in
    does_then g.S.Store _ _ _ _ _ _ _ _ c.loop-ranking.invariant c.in_ok-take.ensures
    (λ was put. rankings_go_on c.args.self.round _ c.args.self.rankings.now c.loop-ranking.ranking-index _ _ mid new
    c.loop-ranking-test.true c.ranking-item.is was
    (subst (λ keys. GoesOn (TurnsThere c.args.self.round c.ranking-item.result.0 keys) mid new) c.deref.ensures.value put))

pub returns : goal.returns
returns g c =
    subst (λ l. Does g.S.Store (GoesOn (TurnsAll c.args.self.round (map {B = Key × List Key} (λ f. (f.0, f.1.items)) l)))
    (Ok (tt {0})) c.args.tx.now c.loop-ranking.tx)
    (take_all c.loop-ranking.ranking-index c.args.self.rankings.now (omega (arith, c.loop-ranking-test.false))) c.loop-ranking.invariant
