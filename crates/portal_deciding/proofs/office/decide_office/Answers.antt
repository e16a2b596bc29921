use Rattle.std.proofs.Common.{arith}
use Rattle.std.proofs.lemmas.Grind.{common_steps}
use Rattle.portal_deciding.proofs.office.decide_office.Goals as goal

pub returns-in_ok-status_body-in-Status : goal.returns-in_ok-status_body-in-Status
returns-in_ok-status_body-in-Status c = grind (arith, common_steps)
