use Rattle.portal_tables.proofs.Runs.{does_then, goes_both}
use Rattle.portal_tables.proofs.Making.{all_made}
use Rattle.portal_tables.proofs.writing.make.make_tables.Goals as goal

pub returns : goal.returns
returns g c =
    does_then g.S.Store _ _ _ _ _ _ _ _ c.in_ok-make_each.ensures c.make_each-2.ensures
    (λ first second. goes_both _ _ _ _ _ _ first second (all_made _ _ _))
