use Rattle.portal_run.proofs.output.refuse.Goals as goal

pub returns-in-NotPortal-clause-says : goal.returns-in-NotPortal-clause-says
returns-in-NotPortal-clause-says g c = rw c.in-NotPortal.is c.say.ensures.says

pub returns-in-OtherVersion-clause-says : goal.returns-in-OtherVersion-clause-says
returns-in-OtherVersion-clause-says g c = rw c.in-OtherVersion.is c.say-in-OtherVersion.ensures.says

pub returns-in-Damaged-clause-says : goal.returns-in-Damaged-clause-says
returns-in-Damaged-clause-says g c = rw c.in-Damaged.is c.say-in-Damaged.ensures.says

pub returns-in-Exists-clause-says : goal.returns-in-Exists-clause-says
returns-in-Exists-clause-says g c = rw c.in-Exists.is c.say-in-Exists.ensures.says
