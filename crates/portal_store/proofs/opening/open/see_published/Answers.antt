use Rattle.portal_store.proofs.Base.{Second}
use Rattle.portal_store.proofs.Asked.{denied_of, reads_said, of_told}
use Rattle.portal_store.proofs.Explained.{converted}
use Rattle.portal_store.proofs.opening.open.see_published.Goals as goal

pub returns-in_err-first_phase-clause-reads : goal.returns-in_err-first_phase-clause-reads
returns-in_err-first_phase-clause-reads g c =
    reads_said c.from_residual.ensures.1 c.in_err-first_phase.ensures (λ own sound told f so. denied_of f _ _ so.1.1 so.0 (told Second))

pub returns-in_err-first_phase-clause-refused : goal.returns-in_err-first_phase-clause-refused
returns-in_err-first_phase-clause-refused g c = converted _ c.from_residual.ensures.1 (λ f so. of_told f _ so.1.1 so.0)
