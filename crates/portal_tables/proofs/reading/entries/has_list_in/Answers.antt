use Rattle.portal_tables.proofs.reading.entries.has_list_in.Goals as goal

pub returns-in-Rankings-clause-reads : goal.returns-in-Rankings-clause-reads
returns-in-Rankings-clause-reads g c = rw c.in-Rankings.is c.has_ranking_in.ensures.reads
