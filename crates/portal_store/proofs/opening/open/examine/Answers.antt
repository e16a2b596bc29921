use Rattle.portal_tables.proofs.InTurn.{unsaid}
use Rattle.portal_store.proofs.Base.{Err, IfErr-weaker, Admits, GivesOrFails, SaysNot, HasEntries, HasGoodWorld}
use Rattle.portal_store.proofs.Base.{Held, IsTrue, inr}
use Rattle.portal_store.proofs.Base.{MatchResult-weaker, Second, current_own, reads_as, reads_handed, reads_of}
use Rattle.portal_store.proofs.Base.{reads_open, reads_then_of, subst, world_of, ReadsOr, NoFault, IsSoundIfOpen, clean_before}
use Rattle.portal_store.proofs.Base.{looks_by, looks_then, on_ok_weaker, settled_still, state, version}
use Rattle.portal_store.specs.Crash.{later_queries}
use Rattle.portal_store.proofs.Asked.{blamed, blames_more}
use Rattle.portal_store.proofs.Base.{IsCommitted}
use Rattle.portal_store.proofs.Explained.{explains_rows, explains_tables, explains_wide, handed, one_so, passes_so}
use Rattle.portal_store.proofs.opening.open.examine.Goals as goal

pub returns-in_err-see_first-clause-reads : goal.returns-in_err-see_first-clause-reads
returns-in_err-see_first-clause-reads g c mine =
    let f = c.in_err-see_first in
    reads_handed c.from_residual.ensures.1 (reads_of (current_own _) (λ own sound. tt) (f.ensures.reads mine))
    (λ own sound told. blames_more f.field-0.0 _ _ _ _ (λ s. tt) told)

-- own tables of the second round are not asked
pub returns-clause-reads : goal.returns-clause-reads
returns-clause-reads g c mine =
    let r = c.judge_both.result in
    let e = c.judge_both.new.conn in
    let judged = subst (λ (h : Held g.row.S.Denot). ReadsOr NoFault Second g.S.Store (IsSoundIfOpen g.S.Store h)
    (GivesOrFails (λ db e. Admits db.trees × HasEntries e (world_of db.trees)) (λ db fault. SaysNot fault (HasGoodWorld db.trees))) r h
    e)
    (c.in_ok-see_tables.ensures.same mine) c.judge_both.ensures.reads in
    reads_as (unsaid _ _) (reads_then_of (λ own on sound told. λ _. sound (on tt))
    (reads_of (current_own _) (λ own sound. tt) (c.in_ok-see_first.ensures.reads mine)) (reads_open judged)) (λ no. no)
    (λ own sound told. MatchResult-weaker r told.1 (λ e it. it) (λ f no. blamed f _ _ _ told.0 no))

pub returns-in_err-see_tables-clause-looks : goal.returns-in_err-see_tables-clause-looks
returns-in_err-see_tables-clause-looks g c = looks_then _ _ _ c.see_first.ensures.looks c.see_tables.ensures.looks

pub returns-clause-looks : goal.returns-clause-looks
returns-clause-looks g c = looks_then _ _ _ c.see_first.ensures.looks
    (looks_then _ _ _ c.see_tables.ensures.looks (looks_by c.judge_both.result c.judge_both.ensures.reads))

-- the tables suit, as they were before all these looks
pub returns-clause-suits : goal.returns-clause-suits
returns-clause-suits g c settled clean =
    let old = state g.S.Store c.args.conn.now in
    let mid = state g.S.Store c.see_first.new.conn in
    let seen = state g.S.Store c.see_tables.new.conn in
    let new = state g.S.Store c.judge_both.new.conn in
    let later = clean_before seen new _ c.judge_both.ensures.reads.crash clean in
    let early = clean_before mid seen _ c.see_tables.ensures.looks.crash later in
    let first = c.see_first.ensures.looks in
    let rest : IsCommitted mid = λ on. settled_still old mid settled (first.stays settled early on) in
    let before = c.in_ok-see_first.ensures.suits settled early in
    let after = passes_so old mid settled first early (IsTrue c.args.own) later_queries
    (c.in_ok-see_tables.ensures.passes rest later) in
    on_ok_weaker c.judge_both.result (λ same. record { passes = before.passes; shows = before.shows; passes_later = after })
    (c.judge_both.ensures.reads.same clean tt)

pub returns-clause-version : goal.returns-clause-version
returns-clause-version g c settled first clean =
    let mid = state g.S.Store c.see_first.new.conn in
    let seen = state g.S.Store c.see_tables.new.conn in
    let early = clean_before mid seen _ c.see_tables.ensures.looks.crash
    (clean_before seen (state g.S.Store c.judge_both.new.conn) _ c.judge_both.ensures.reads.crash clean) in
    on_ok_weaker c.judge_both.result (λ same. c.in_ok-see_first.ensures.version settled first early)
    (c.judge_both.ensures.reads.same clean tt)

pub returns-in_err-see_first-clause-explained : goal.returns-in_err-see_first-clause-explained
returns-in_err-see_first-clause-explained g c settled clean =
    let f = c.in_err-see_first in
    let old = state g.S.Store c.args.conn.now in
    handed _ _ c.from_residual.ensures.1
    (explains_wide f.field-0.0 (IsTrue c.args.own) version later_queries old f.ensures.judged (f.ensures.explained settled clean))

pub returns-in_err-see_tables-clause-explained : goal.returns-in_err-see_tables-clause-explained
returns-in_err-see_tables-clause-explained g c settled clean =
    let f = c.in_err-see_tables in
    let old = state g.S.Store c.args.conn.now in
    let mid = state g.S.Store c.see_first.new.conn in
    let early = clean_before mid (state g.S.Store c.see_tables.new.conn) _ c.see_tables.ensures.looks.crash clean in
    let first = c.see_first.ensures.looks in
    let rest : IsCommitted mid = λ on. settled_still old mid settled (first.stays settled early on) in
    let suits = c.in_ok-see_first.ensures.suits settled early in
    handed _ _ c.from_residual-in_err-see_tables.ensures.1
    (explains_tables (Err f.field-0.0) (IsTrue c.args.own) version later_queries old f.ensures.damaged f.ensures.version
    (λ is. inr (suits.passes, inr (suits.shows, one_so old mid settled first early later_queries (f.ensures.refused rest clean is)))))

pub returns-clause-explained : goal.returns-clause-explained
returns-clause-explained g c settled clean =
    let old = state g.S.Store c.args.conn.now in
    let mid = state g.S.Store c.see_first.new.conn in
    let seen = state g.S.Store c.see_tables.new.conn in
    let later = clean_before seen (state g.S.Store c.judge_both.new.conn) _ c.judge_both.ensures.reads.crash clean in
    let early = clean_before mid seen _ c.see_tables.ensures.looks.crash later in
    let first = c.see_first.ensures.looks in
    let rest : IsCommitted mid = λ on. settled_still old mid settled (first.stays settled early on) in
    let before = c.in_ok-see_first.ensures.suits settled early in
    let after = passes_so old mid settled first early (IsTrue c.args.own) later_queries
    (c.in_ok-see_tables.ensures.passes rest later) in
    IfErr-weaker c.judge_both.result _ _
    (λ f. explains_rows f (IsTrue c.args.own) version later_queries old
    (record { passes = before.passes; shows = before.shows; passes_later = after }))
    c.judge_both.ensures.refused
