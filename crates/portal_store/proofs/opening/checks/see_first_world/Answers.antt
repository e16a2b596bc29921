use Rattle.portal_tables.proofs.InTurn.{unsaid}
use Rattle.portal_store.proofs.Base.{First, MatchResult-weaker, reads_more, state, world_in, IfErr-weaker}
use Rattle.portal_store.proofs.Asked.{denied_of, denies_more, reads_said, of_told, of_judged}
use Rattle.portal_store.proofs.Loaded.{nothing_earlier}
use Rattle.portal_store.proofs.Explained.{converted}
use Rattle.portal_store.proofs.opening.checks.see_first_world.Goals as goal

pub returns-in_err-rows-clause-reads : goal.returns-in_err-rows-clause-reads
returns-in_err-rows-clause-reads g c =
    reads_said c.from_residual.ensures.1 c.in_err-rows.ensures (λ own sound told f so. denied_of f _ _ so.1.1 so.0 told)

pub returns-clause-reads : goal.returns-clause-reads
returns-clause-reads g c =
    let db = (state g.S.Store c.args.conn.now).now.trees in
    reads_more (unsaid _ _) c.in_ok-rows.ensures
    (λ own sound loads. MatchResult-weaker c.judge_rows.result
    (c.judge_rows.ensures.good (world_in First db) loads.rows_are (nothing_earlier First db))
    (λ e it. (record { office = loads.office; whole = loads.whole; good = it.0 }, it.1)) (λ f. denies_more f _ _ (λ stands. stands.good)))

pub returns-in_err-rows-clause-refused : goal.returns-in_err-rows-clause-refused
returns-in_err-rows-clause-refused g c = converted _ c.from_residual.ensures.1 (λ f so. of_told f _ so.1.1 so.0)

pub returns-clause-refused : goal.returns-clause-refused
returns-clause-refused g c = IfErr-weaker c.judge_rows.result _ _ of_judged c.judge_rows.ensures.judged
