use Rattle.portal_tables.proofs.Fresh.{upgraded}
use Rattle.portal_tables.proofs.writing.make.UpgradeTableChange.take.Goals as goal

pub returns : goal.returns
returns g c = upgraded g.S.Store _ _ _ _ _ c.in_ok-make_each.ensures c.in_ok-add_second.ensures c.set_version.ensures
