use Rattle.portal_store.proofs.Base.{◌∙◌, First, ShowsRoll, TurnsLeft, TurnsShown, current_own, state, subst, sym}
use Rattle.portal_store.proofs.Ended.{ends_asked, ends_refused}
use Rattle.portal_store.proofs.changing.placing.publish.Goals as goal

pub returns-in_err-rows : goal.returns-in_err-rows
returns-in_err-rows g c = ends_refused c.from_residual.ensures.0 c.outside_transaction.ensures.committed c.in_err-rows.ensures.reads

pub returns-in-First : goal.returns-in-First
returns-in-First g c =
    let done = c.commit.ensures in
    rw c.in-First.is (ends_asked (TurnsShown First c.args.pairs.now c.deref.result.now) done.idle done.ok done.err done.durable done.crash
    c.in_ok-rows.ensures.reads
    (λ own clean after turns. turns (subst (λ rows. ShowsRoll rows (state g.S.Store c.args.conn.now).now) (sym c.deref.ensures.value)
    (c.in_ok-rows.ensures.reads.told (current_own _ own) tt clean))))

pub returns-in_err-left-in-Second : goal.returns-in_err-left-in-Second
returns-in_err-left-in-Second g c = ends_refused c.from_residual-in_err-left-in-Second.ensures.0 c.outside_transaction.ensures.committed
    c.in_ok-rows.ensures.reads

pub returns : goal.returns
returns g c =
    let done = c.commit-in-Second.ensures in
    rw c.in-Second.is (ends_asked (TurnsLeft c.deref-in-Second-2.result.now) done.idle done.ok done.err done.durable done.crash
    c.in_ok-rows.ensures.reads
    (λ own clean after turns. turns c.args.pairs.now c.deref-in-Second.result.now
    (c.deref-in-Second-2.ensures.value ∙ c.in_ok-left-in-Second.ensures)
    (subst (λ rows. ShowsRoll rows (state g.S.Store c.args.conn.now).now) (sym c.deref-in-Second.ensures.value)
    (c.in_ok-rows.ensures.reads.told (current_own _ own) tt clean))))
