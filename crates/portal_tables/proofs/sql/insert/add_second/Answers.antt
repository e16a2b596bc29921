use Rattle.portal_tables.proofs.Base.{◌∷◌, [], refl}
use Rattle.portal_tables.proofs.Runs.{does_more}
use Rattle.portal_tables.proofs.Statements.{second_added}
use Rattle.portal_tables.proofs.sql.insert.add_second.Goals as goal

pub returns : goal.returns
returns g c = does_more g.S.Store _ _ _ _ _ c.write.ensures
    (second_added g.S.Store (tt ∷ []) refl c.args.tx.now.conn.now c.write.new.tx.conn.now)
