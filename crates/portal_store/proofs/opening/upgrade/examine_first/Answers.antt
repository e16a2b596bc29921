use Rattle.portal_tables.proofs.InTurn.{unsaid}
use Rattle.portal_store.proofs.Base.{Database, HasGoodFirst, MatchResult-weaker, first_version, IfErr-weaker, reads_any}
use Rattle.portal_store.proofs.Base.{reads_as, reads_open, reads_then_of, clean_before, looks_by, looks_then}
use Rattle.portal_store.proofs.Base.{[], IsTrue, SaysNot, on_ok_weaker, state, subst}
use Rattle.portal_store.proofs.Asked.{blamed, judged_before, not_judged}
use Rattle.portal_store.proofs.Explained.{explains_rows, handed}
use Rattle.portal_store.proofs.opening.upgrade.examine_first.Goals as goal

pub returns-clause-reads : goal.returns-clause-reads
returns-clause-reads g c mine =
    let r = c.judge_first.result in
    reads_as (unsaid _ _) (reads_then_of (λ own on sound told. λ _. sound (on tt)) (reads_any (c.in_ok-see_first.ensures.reads mine))
    (reads_open c.judge_first.ensures.reads)) (λ no. no)
    (λ own sound told. MatchResult-weaker r told.1 (λ e it. it) (λ f no. blamed f _ _ _ told.0 no))

pub returns-clause-looks : goal.returns-clause-looks
returns-clause-looks g c = looks_then _ _ _ c.see_first.ensures.looks (looks_by c.judge_first.result c.judge_first.ensures.reads)

pub returns-clause-suits : goal.returns-clause-suits
returns-clause-suits g c settled clean =
    let mid = state g.S.Store c.see_first.new.conn in
    let early = clean_before mid (state g.S.Store c.judge_first.new.conn) _ c.judge_first.ensures.reads.crash clean in
    on_ok_weaker c.judge_first.result (λ same. c.in_ok-see_first.ensures.suits settled early) (c.judge_first.ensures.reads.same clean tt)

pub returns-in_err-see_first-clause-judged : goal.returns-in_err-see_first-clause-judged
returns-in_err-see_first-clause-judged g c settled first live clean =
    not_judged _ _ c.from_residual.ensures.1 c.in_err-see_first.ensures.judged

pub returns-clause-judged : goal.returns-clause-judged
returns-clause-judged g c settled first live clean =
    let mid = state g.S.Store c.see_first.new.conn in
    let early = clean_before mid (state g.S.Store c.judge_first.new.conn) _ c.judge_first.ensures.reads.crash clean in
    judged_before c.judge_first.result _ _ _ (λ (db : Database). HasGoodFirst first_version db.trees) settled c.see_first.ensures.looks
    (c.in_ok-see_first.ensures.live early) c.judge_first.ensures.reads clean first (λ on _. (live on).0) (λ e it. it.0.stands)
    (λ f told is. subst (λ f. SaysNot f (HasGoodFirst first_version (state g.S.Store c.args.conn.now).now.trees)) is told)

pub returns-in_err-see_first-clause-explained : goal.returns-in_err-see_first-clause-explained
returns-in_err-see_first-clause-explained g c settled clean =
    handed _ _ c.from_residual.ensures.1 (c.in_err-see_first.ensures.explained settled clean)

pub returns-clause-explained : goal.returns-clause-explained
returns-clause-explained g c settled clean =
    let old = state g.S.Store c.args.conn.now in
    let mid = state g.S.Store c.see_first.new.conn in
    let early = clean_before mid (state g.S.Store c.judge_first.new.conn) _ c.judge_first.ensures.reads.crash clean in
    let suits = c.in_ok-see_first.ensures.suits settled early in
    IfErr-weaker c.judge_first.result _ _ (λ f. explains_rows f (IsTrue c.args.own) first_version [] old suits)
    c.judge_first.ensures.refused
