use Rattle.portal_desk.proofs.Moving.{worked_none}
use Rattle.portal_run.proofs.serve.listen.Goals as goal

pub returns-in_default-clause-worked : goal.returns-in_default-clause-worked
returns-in_default-clause-worked g c = worked_none _ _

pub returns-clause-worked : goal.returns-clause-worked
returns-clause-worked g c = worked_none _ _
