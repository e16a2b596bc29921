use Rattle.portal_wire.proofs.Base.{rules}
use Rattle.portal_wire.proofs.Words.{none_named}
use Rattle.portal_wire.proofs.routes.method_in.Goals as goal

pub returns-in-Err-Invalid : goal.returns-in-Err-Invalid
returns-in-Err-Invalid c = none_named _ (c.in-Err-Invalid.ensures.invalid.0 (search rules))
