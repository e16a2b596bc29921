use Rattle.portal_tables.proofs.Base.{◌∷◌, [], refl, version}
use Rattle.portal_tables.proofs.Runs.{does_more}
use Rattle.portal_tables.proofs.Statements.{portal_added}
use Rattle.portal_tables.proofs.sql.insert.add_portal.Goals as goal

pub returns : goal.returns
returns g c = does_more g.S.Store _ _ _ _ _ (rw c.to_sql.ensures at c.write.ensures)
    (portal_added g.S.Store version (c.args.office.now ∷ []) refl c.args.tx.now.conn.now c.write.new.tx.conn.now)
