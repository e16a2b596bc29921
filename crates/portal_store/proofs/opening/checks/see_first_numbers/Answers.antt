use Rattle.portal_tables.proofs.InTurn.{unsaid}
use Rattle.portal_store.proofs.Base.{IfOk-weaker, reads_as, reads_handed, reads_open, reads_then}
use Rattle.portal_store.proofs.opening.checks.see_first_numbers.Goals as goal

pub returns-in_err-see_row_numbers-2-clause-reads : goal.returns-in_err-see_row_numbers-2-clause-reads
returns-in_err-see_row_numbers-2-clause-reads g c =
    reads_handed c.from_residual-in_err-see_row_numbers-2.ensures.1
    (reads_then c.in_ok-see_row_numbers.ensures.reads (reads_open c.in_err-see_row_numbers-2.ensures.reads)) (λ own any told. tt)

pub returns-in_err-see_row_numbers-3-clause-reads : goal.returns-in_err-see_row_numbers-3-clause-reads
returns-in_err-see_row_numbers-3-clause-reads g c =
    let two = reads_then c.in_ok-see_row_numbers.ensures.reads (reads_open c.in_ok-see_row_numbers-2.ensures.reads) in
    reads_handed c.from_residual-in_err-see_row_numbers-3.ensures.1 (reads_then two (reads_open c.in_err-see_row_numbers-3.ensures.reads))
    (λ own any told. tt)

pub returns-in_err-see_row_numbers-4-clause-reads : goal.returns-in_err-see_row_numbers-4-clause-reads
returns-in_err-see_row_numbers-4-clause-reads g c =
    let two = reads_then c.in_ok-see_row_numbers.ensures.reads (reads_open c.in_ok-see_row_numbers-2.ensures.reads) in
    let three = reads_then two (reads_open c.in_ok-see_row_numbers-3.ensures.reads) in
    reads_handed c.from_residual-in_err-see_row_numbers-4.ensures.1 (reads_then three (reads_open c.in_err-see_row_numbers-4.ensures.reads))
    (λ own any told. tt)

pub returns-clause-reads : goal.returns-clause-reads
returns-clause-reads g c =
    let two = reads_then c.in_ok-see_row_numbers.ensures.reads (reads_open c.in_ok-see_row_numbers-2.ensures.reads) in
    let four = reads_then (reads_then two (reads_open c.in_ok-see_row_numbers-3.ensures.reads))
    (reads_open c.in_ok-see_row_numbers-4.ensures.reads) in
    reads_as (unsaid _ _) (reads_then four (reads_open c.see_row_numbers-5.ensures.reads)) (λ no. no)
    (λ own any told. IfOk-weaker c.see_row_numbers-5.result _ _
    (λ _ last. (told.0.0.0.0, (told.0.0.0.1, (told.0.0.1, (told.0.1, (last, tt)))))) told.1)
