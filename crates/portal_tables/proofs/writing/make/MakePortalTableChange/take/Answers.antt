use Rattle.portal_tables.proofs.Fresh.{fresh_made}
use Rattle.portal_tables.proofs.writing.make.MakePortalTableChange.take.Goals as goal

pub returns : goal.returns
returns g c = fresh_made g.S.Store _ _ _ _ _ c.args.self.office.now c.in_ok-make_tables.ensures c.in_ok-add_portal.ensures
    c.add_second.ensures
