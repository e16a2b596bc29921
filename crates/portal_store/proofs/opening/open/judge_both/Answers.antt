use Rattle.portal_tables.proofs.InTurn.{unsaid}
use Rattle.portal_store.proofs.Base.{MatchResult-weaker, reads_any, reads_as, reads_handed, reads_open, reads_then}
use Rattle.portal_store.proofs.Base.{reads_then_of, round_in, state}
use Rattle.portal_store.proofs.Asked.{apart_both, of_rows}
use Rattle.portal_store.proofs.Rounds.{judged_stands}
use Rattle.portal_store.proofs.Explained.{handed}
use Rattle.portal_store.proofs.opening.open.judge_both.Goals as goal

pub returns-in_err-see_second-clause-reads : goal.returns-in_err-see_second-clause-reads
returns-in_err-see_second-clause-reads g c =
    reads_handed c.from_residual-in_err-see_second.ensures.1
    (reads_then_of (λ own on sound told. sound (on tt)) (reads_any c.in_ok-see_numbers.ensures.reads)
    (reads_open c.in_err-see_second.ensures.reads))
    (λ own sound told. told.1)

pub returns-clause-reads : goal.returns-clause-reads
returns-clause-reads g c =
    let r = c.see_world.result in
    let db = (state g.S.Store c.args.conn.now).now.trees in
    reads_as (unsaid _ _)
    (reads_then_of (λ own on sound told. sound (on tt)) (reads_any c.in_ok-see_numbers.ensures.reads)
    (reads_open (reads_then c.in_ok-see_second.ensures.reads (reads_open c.see_world.ensures.reads)))) (λ no. no)
    (λ own sound told. MatchResult-weaker r told.1.1
    (λ e it. (record { apart = apart_both db (round_in db) it.0.office told.1.0 told.0; stands = judged_stands db told.1.0 it.0 }, it.1))
    (λ f no. no told.0))

pub returns-in_err-see_numbers-clause-refused : goal.returns-in_err-see_numbers-clause-refused
returns-in_err-see_numbers-clause-refused g c = handed _ _ c.from_residual.ensures.1 (of_rows _ _ c.in_err-see_numbers.ensures.refused)
