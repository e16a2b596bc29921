use Rattle.portal_store.proofs.Base.{reads_as, reads_of}
use Rattle.portal_store.proofs.reading.queries.view.Goals as goal

-- nothing is remembered
pub returns-in-Ok-clause-reads : goal.returns-in-Ok-clause-reads
returns-in-Ok-clause-reads g c = reads_as tt
    (reads_of (λ own. own) (λ own holds. (holds, c.nothing-cache.ensures _)) c.in-Ok.ensures) (λ no. absurd (cc))
    (λ own holds told. told.1)
