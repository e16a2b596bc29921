use Rattle.portal_run.proofs.output.say_fault.Goals as goal

pub returns-in-Read-clause-says : goal.returns-in-Read-clause-says
returns-in-Read-clause-says g c = rw c.in-Read.is c.say.ensures.says

pub returns-in-Write-clause-says : goal.returns-in-Write-clause-says
returns-in-Write-clause-says g c = rw c.in-Write.is c.say-in-Write.ensures.says

pub returns-in-Memory-clause-says : goal.returns-in-Memory-clause-says
returns-in-Memory-clause-says g c = rw c.in-Memory.is c.say-in-Memory.ensures.says

pub returns-in-Store-clause-says : goal.returns-in-Store-clause-says
returns-in-Store-clause-says g c = rw c.in-Store.is c.say-in-Store.ensures.says
