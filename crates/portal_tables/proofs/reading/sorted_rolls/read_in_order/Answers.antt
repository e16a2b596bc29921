use Rattle.portal_tables.proofs.Base.{IsTrue, Rise, first_cell, map, sym, ap, subst, Err}
use Rattle.portal_tables.proofs.InTurn.{reads_more, reads_handed}
use Rattle.portal_tables.proofs.reading.sorted_rolls.read_in_order.Goals as goal

pub returns-in_err-rows-clause-reads : goal.returns-in_err-rows-clause-reads
returns-in_err-rows-clause-reads g c = reads_handed c.from_residual.ensures.1 c.in_err-rows.ensures.reads
    (λ own any told blamed rise. c.in_err-rows.ensures.undamaged (ap Err blamed))

pub returns-then-not-do_rise-clause-reads : goal.returns-then-not-do_rise-clause-reads
returns-then-not-do_rise-clause-reads g c =
    reads_more (λ its. absurd (cc)) c.in_ok-rows.ensures.reads
    (λ own any shown damaged rise. let up : IsTrue c.do_rise.result = c.do_rise.ensures.1
    (subst (λ rows. Rise (map first_cell rows)) (sym c.deref.ensures.value) (rise _ shown)) in absurd (cc))

pub returns-clause-reads : goal.returns-clause-reads
returns-clause-reads g c = reads_more tt c.in_ok-rows.ensures.reads (λ own any shown. shown)
