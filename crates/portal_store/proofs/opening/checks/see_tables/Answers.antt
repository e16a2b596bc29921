use Rattle.portal_store.proofs.Base.{clean_before, ◌≡◌, arith, inl, inr, looks_by, looks_never, looks_then, state, subst}
use Rattle.portal_store.proofs.Base.{AllByRecursion, take_all}
use Rattle.portal_store.specs.Crash.{IsAnswered}
use Rattle.portal_store.proofs.Explained.{all_more, answered_so, refused_at, refused_by, refused_so}
use Rattle.portal_store.specs.declared.store.OpenFault.TheVariants.{NotPortal}
use Rattle.portal_store.proofs.opening.checks.see_tables.Goals as goal

pub returns-then-own-clause-looks : goal.returns-then-own-clause-looks
returns-then-own-clause-looks g c = looks_never _

pub returns-then-own-clause-passes : goal.returns-then-own-clause-passes
returns-then-own-clause-passes g c settled clean = inl c.if-own.true

pub loop-query-init : goal.loop-query-init
loop-query-init g c = (looks_never _, λ settled clean. tt)

pub loop-query-preserved : goal.loop-query-preserved
loop-query-preserved g c =
    let old = state g.S.Store c.args.conn.now in
    let mid = state g.S.Store c.loop-query.conn in
    let new = state g.S.Store c.read.new.conn in
    let read = c.in_default.ensures in
    let before = c.loop-query.invariant in (
      looks_then _ _ _ before.0 (looks_by c.read.result c.read.ensures.reads),
      λ settled clean.
          let early = clean_before mid new _ c.read.ensures.reads.crash clean in
          all_more _ c.args.queries.now c.loop-query.query-index _ c.loop-query-test.true (before.1 settled early)
          (answered_so old mid settled before.0 early _ (_, read.answers clean)),
    )

pub returns-clause-passes : goal.returns-clause-passes
returns-clause-passes g c settled clean =
    let old = state g.S.Store c.args.conn.now in
    inr (subst (AllByRecursion (IsAnswered old))
    (take_all c.loop-query.query-index c.args.queries.now (omega (arith, c.loop-query-test.false)))
    (c.loop-query.invariant.1 settled clean))

pub returns-clause-looks : goal.returns-clause-looks
returns-clause-looks g c = c.loop-query.invariant.0

pub returns-in-Err-clause-looks : goal.returns-in-Err-clause-looks
returns-in-Err-clause-looks g c = looks_then _ _ _ c.loop-query.invariant.0 (looks_by c.read.result c.read.ensures.reads)

pub returns-in-Err-clause-refused : goal.returns-in-Err-clause-refused
returns-in-Err-clause-refused g c settled clean is =
    let old = state g.S.Store c.args.conn.now in
    let mid = state g.S.Store c.loop-query.conn in
    let early = clean_before mid (state g.S.Store c.read.new.conn) _ c.read.ensures.reads.crash clean in
    let told : c.table_fault_of.result ≡ NotPortal = cc in
    let refused = refused_by _ mid _ (c.in-Err.ensures.fails clean)
    (λ store. c.table_fault_of.ensures.device store.0 store.1 told) in
    refused_at c.args.queries.now c.loop-query.query-index _ old c.loop-query-test.true
    (refused_so old mid settled c.loop-query.invariant.0 early _ refused)
