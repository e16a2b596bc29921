use Rattle.portal_wire.proofs.Base.{sym}
use Rattle.portal_wire.proofs.Literal.{first_is, none_at}
use Rattle.portal_wire.proofs.routes.route_in.Goals as goal

pub returns-in_default : goal.returns-in_default
returns-in_default c =
    let cases = rw c.in_default.is at c.from_utf8.ensures.cases in
    sym (none_at c.args.path.now cases.0)

pub returns : goal.returns
returns c = rw (c.found_by.ensures, c.in_ok-router.ensures, c.in-Ok.ensures.cases.0) (first_is c.args.path.now)
