use Rattle.portal_file.proofs.job.open_file.Goals as goal

pub returns-in-Ok-clause-found : goal.returns-in-Ok-clause-found
returns-in-Ok-clause-found g c clean =
    (c.in-Ok.ensures.opened clean, c.in-Ok.ensures.found clean, c.in-Ok.ensures.fresh.unlimited)
