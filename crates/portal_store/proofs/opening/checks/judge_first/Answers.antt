use Rattle.portal_tables.proofs.InTurn.{unsaid}
use Rattle.portal_store.proofs.Base.{MatchResult-weaker, reads_any, reads_as, reads_open, reads_then_of, state}
use Rattle.portal_store.proofs.Asked.{first_apart, of_rows}
use Rattle.portal_store.proofs.Explained.{handed}
use Rattle.portal_store.proofs.opening.checks.judge_first.Goals as goal

pub returns-clause-reads : goal.returns-clause-reads
returns-clause-reads g c =
    let r = c.see_first_world.result in
    reads_as (unsaid _ _) (reads_then_of (λ own on sound told. sound (on tt)) (reads_any c.in_ok-see_first_numbers.ensures.reads)
    (reads_open c.see_first_world.ensures.reads)) (λ no. no)
    (λ own sound told. MatchResult-weaker r told.1
    (λ e it. (
      record {
        apart = first_apart c.args.version (state g.S.Store c.args.conn.now).now.trees it.0.office told.0;
        stands = it.0;
      },
      it.1,
    )) (λ f no. no))

pub returns-in_err-see_first_numbers-clause-refused : goal.returns-in_err-see_first_numbers-clause-refused
returns-in_err-see_first_numbers-clause-refused g c =
    handed _ _ c.from_residual.ensures.1 (of_rows _ _ c.in_err-see_first_numbers.ensures.refused)
