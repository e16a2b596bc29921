use Rattle.portal_tables.proofs.InTurn.{reads_of, reads_as, reads_then, reads_handed, its_own}
use Rattle.portal_tables.proofs.Base.{MatchResult-weaker}
use Rattle.portal_tables.proofs.reading.entries.entries_in.Goals as goal

pub returns : goal.returns
returns g c =
    reads_as (its_own _ c.entries_each.result)
    (reads_then (reads_of (λ own. own) (λ own sound. tt) c.in_ok-see_owners.ensures) c.entries_each.ensures) (λ no. no)
    (λ own sound told. MatchResult-weaker c.entries_each.result told.1 (λ v it. it) (λ e no blamed it. no blamed it.1))

pub returns-in_err-see_owners : goal.returns-in_err-see_owners
returns-in_err-see_owners g c = reads_handed c.from_residual.ensures.1 (reads_of (λ own. own) (λ own sound. tt) c.in_err-see_owners.ensures)
    (λ own sound told blamed it. told blamed it.0)
