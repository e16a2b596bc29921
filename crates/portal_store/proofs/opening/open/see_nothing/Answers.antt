use Rattle.portal_tables.proofs.InTurn.{unsaid}
use Rattle.portal_store.proofs.Base.{MatchResult-weaker, reads_as, reads_handed, reads_of, reads_open, reads_then_of}
use Rattle.portal_store.proofs.Base.{refl}
use Rattle.portal_store.proofs.Asked.{denies_more}
use Rattle.portal_store.proofs.opening.open.see_nothing.Goals as goal

pub returns-in_err-see_none-2-clause-reads : goal.returns-in_err-see_none-2-clause-reads
returns-in_err-see_none-2-clause-reads g c =
    let first = reads_of (λ own. own) (λ own any. refl) c.in_ok-see_none.ensures.reads in
    reads_handed c.from_residual-in_err-see_none-2.ensures.1
    (reads_then_of (λ own on any told. refl) first (reads_open c.in_err-see_none-2.ensures.reads))
    (λ own any told. denies_more c.in_err-see_none-2.field-0.0 _ _ (λ none. none.1.0) told.1)

pub returns-in_err-see_none-3-clause-reads : goal.returns-in_err-see_none-3-clause-reads
returns-in_err-see_none-3-clause-reads g c =
    let first = reads_of (λ own. own) (λ own any. refl) c.in_ok-see_none.ensures.reads in
    reads_handed c.from_residual-in_err-see_none-3.ensures.1
    (reads_then_of (λ own on any told. refl) (reads_then_of (λ own on any told. refl) first (reads_open c.in_ok-see_none-2.ensures.reads))
    (reads_open c.in_err-see_none-3.ensures.reads))
    (λ own any told. denies_more c.in_err-see_none-3.field-0.0 _ _ (λ none. none.1.1.0) told.1)

pub returns-clause-reads : goal.returns-clause-reads
returns-clause-reads g c =
    let first = reads_of (λ own. own) (λ own any. refl) c.in_ok-see_none.ensures.reads in
    reads_as (unsaid _ _)
    (reads_then_of (λ own on any told. refl)
    (reads_then_of (λ own on any told. refl) (reads_then_of (λ own on any told. refl) first (reads_open c.in_ok-see_none-2.ensures.reads))
    (reads_open c.in_ok-see_none-3.ensures.reads)) (reads_open c.see_none-4.ensures.reads)) (λ no. no)
    (λ own any told. MatchResult-weaker c.see_none-4.result told.1 (λ _ last. (told.0.0.0, (told.0.0.1, (told.0.1, (last, tt)))))
    (λ f. denies_more f _ _ (λ none. none.1.1.1.0)))
