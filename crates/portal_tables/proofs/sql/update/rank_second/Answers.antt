use Rattle.portal_tables.proofs.Base.{◌∷◌, [], refl}
use Rattle.portal_tables.proofs.Runs.{does_then, made_then}
use Rattle.portal_tables.proofs.SecondRound.{rank_put}
use Rattle.portal_tables.proofs.Statements.{rank_cleared, rank_added}
use Rattle.portal_tables.proofs.sql.update.rank_second.Goals as goal

pub returns : goal.returns
returns g c =
    let key = c.args.lecturer.now in
    does_then g.S.Store _ _ _ _ _ _ _ _ c.in_ok-write.ensures c.write-2.ensures
    (λ gone come. made_then _ _ _ _ _ _ (rank_cleared _ _ key gone)
    (rank_added g.S.Store (key ∷ []) refl c.write.new.tx.conn.now c.write-2.new.tx.conn.now come) (rank_put key _ _ _))
