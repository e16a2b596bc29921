use Rattle.portal_tables.proofs.Base.{◌∙◌, ap, map, IfOk-from_err, state, ranked2_tree, row_key, has}
use Rattle.portal_tables.proofs.InTurn.{reads_open, reads_of, reads_as, reads_more, converted}
use Rattle.portal_tables.proofs.SecondRows.{ranked_found}
use Rattle.portal_tables.proofs.reading.entries.has_ranking_in.Goals as goal

pub returns-in_err-finds_any-in-Second-clause-reads : goal.returns-in_err-finds_any-in-Second-clause-reads
returns-in_err-finds_any-in-Second-clause-reads g c =
    let failed = c.from_residual.ensures.0 in
    rw c.in-Second.is
    (reads_as (converted c.from_residual.result _ c.from_residual.ensures.1)
    (reads_open (reads_of (λ own. own) (λ own sound. tt) c.in_err-finds_any-in-Second.ensures)) (λ _. failed)
    (λ own sound told. IfOk-from_err c.from_residual.result _ failed))

pub returns-in_ok-finds_any-in-Second-clause-reads : goal.returns-in_ok-finds_any-in-Second-clause-reads
returns-in_ok-finds_any-in-Second-clause-reads g c =
    let now = (state g.S.Store c.args.conn.now).now in
    rw c.in-Second.is
    (reads_more tt (reads_open (reads_of (λ own. own) (λ own sound. tt) c.in_ok-finds_any-in-Second.ensures))
    (λ own sound it. it.told ∙ ranked_found now own sound c.bytes_at.result.now it.rows it.shown
    ∙ ap (has (map row_key (now.trees ranked2_tree))) c.bytes_at.ensures))
