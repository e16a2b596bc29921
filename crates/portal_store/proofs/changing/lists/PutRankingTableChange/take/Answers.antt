use Rattle.portal_store.proofs.Base.{Ok, subst, sym, Round, tree_of, PutsList, RanksSecond, Does, Made, GoesOn}
use Rattle.portal_store.proofs.Base.{does_then, ranking_table, TurnsThere}
use Rattle.portal_tables.specs.inner.RowChanges.{MarksRanked}
use Rattle.portal_store.proofs.RankTurns.{rank_made}
use Rattle.portal_store.proofs.SecondRanks.{second_made}
use Rattle.portal_store.proofs.changing.lists.PutRankingTableChange.take.Goals as goal

pub returns-in-First : goal.returns-in-First
returns-in-First g c =
    let k = c.args.self.lecturer.now in
    let list = c.args.self.students.now in
    let put = subst (λ (round : Round). Does g.S.Store (GoesOn (PutsList (tree_of (ranking_table round)) k list))
    (Ok c.in_ok-put_list.field-0) c.args.tx.now c.put_list.new.tx) c.in-First.is c.in_ok-put_list.ensures in
    let told = subst (λ x. Does g.S.Store (Made (MarksRanked x)) c.set_ranked.result c.put_list.new.tx c.set_ranked.new.tx)
    c.as_bytes.ensures.bytes c.set_ranked.ensures in
    subst (λ (round : Round). Does g.S.Store (GoesOn (TurnsThere round k list)) c.set_ranked.result c.args.tx.now c.set_ranked.new.tx)
    (sym c.in-First.is) (does_then g.S.Store _ _ _ _ _ _ _ _ put told (rank_made k list _ _ _))

pub returns-in-Second : goal.returns-in-Second
returns-in-Second g c =
    let k = c.args.self.lecturer.now in
    let list = c.args.self.students.now in
    let put = subst (λ (round : Round). Does g.S.Store (GoesOn (PutsList (tree_of (ranking_table round)) k list))
    (Ok c.in_ok-put_list.field-0) c.args.tx.now c.put_list.new.tx) c.in-Second.is c.in_ok-put_list.ensures in
    let told = subst (λ x. Does g.S.Store (Made (RanksSecond x)) c.rank_second.result c.put_list.new.tx c.rank_second.new.tx)
    c.as_bytes-in-Second.ensures.bytes c.rank_second.ensures in
    subst (λ (round : Round). Does g.S.Store (GoesOn (TurnsThere round k list)) c.rank_second.result c.args.tx.now c.rank_second.new.tx)
    (sym c.in-Second.is) (does_then g.S.Store _ _ _ _ _ _ _ _ put told (second_made k list _ _ _))
