use Rattle.portal_store.proofs.Base.{reads_any, reads_more, state}
use Rattle.portal_store.proofs.Asked.{denies_any, found_none, found_some, reads_said, of_rows}
use Rattle.portal_store.proofs.Explained.{converted}
use Rattle.portal_store.proofs.opening.open.see_none.Goals as goal

pub returns-in_err-found-clause-reads : goal.returns-in_err-found-clause-reads
returns-in_err-found-clause-reads g c = reads_said c.from_residual.ensures.1 (reads_any c.in_err-found.ensures)
    (λ own all told f so. denies_any f _ so.0)

pub returns-then-found-clause-reads : goal.returns-then-found-clause-reads
returns-then-found-clause-reads g c =
    reads_more (λ none. absurd none) (reads_any c.in_ok-found.ensures)
    (λ own all told. found_some c.args.query (state g.S.Store c.args.conn.now).now.trees c.in_ok-found.found all told c.if-found.true)

pub returns-else-found-clause-reads : goal.returns-else-found-clause-reads
returns-else-found-clause-reads g c =
    reads_more tt (reads_any c.in_ok-found.ensures)
    (λ own all told. found_none c.args.query (state g.S.Store c.args.conn.now).now.trees c.in_ok-found.found all told c.if-found.false)

pub returns-in_err-found-clause-refused : goal.returns-in_err-found-clause-refused
returns-in_err-found-clause-refused g c = converted _ c.from_residual.ensures.1 (λ f so. of_rows f _ so.0)
