use Rattle.portal_store.proofs.Base.{◌≡◌, ◌≢◌, TurnsThere, current_own, length, rules, state}
use Rattle.portal_store.proofs.Absent.{turns_shown, turns_none}
use Rattle.portal_store.proofs.Ended.{ends_asked, ends_none, ends_refused}
use Rattle.portal_store.proofs.changing.lists.replace_ranking.Goals as goal

pub returns-in_err-there : goal.returns-in_err-there
returns-in_err-there g c =
    ends_refused c.from_residual.ensures.0 c.outside_transaction.ensures.committed c.in_err-there.ensures.reads

pub returns-then-is_empty : goal.returns-then-is_empty
returns-then-is_empty g c =
    let k = c.args.lecturer.now in
    let list = c.args.students.now in
    let old = state g.S.Store c.args.conn.now in
    let none : length c.in_ok-there.there.items ≡ 0 = search rules in
    ends_none c.outside_transaction.ensures.committed (g.met.S.Store.settled c.read.new.conn.store) c.in_ok-there.ensures.reads
    (λ own clean. turns_none c.args.round k _ list _ c.in_ok-there.there.items old.now c.as_bytes.ensures.bytes none
    (c.in_ok-there.ensures.reads.told (current_own _ own) tt clean))

pub returns : goal.returns
returns g c =
    let k = c.args.lecturer.now in
    let list = c.args.students.now in
    let old = state g.S.Store c.args.conn.now in
    let some : length c.in_ok-there.there.items ≢ 0 = λ e. search rules in
    ends_asked (TurnsThere c.args.round k list) c.commit.ensures.idle c.commit.ensures.ok c.commit.ensures.err c.commit.ensures.durable
    c.commit.ensures.crash c.in_ok-there.ensures.reads
    (λ own clean after. turns_shown c.args.round k _ list _ c.in_ok-there.there.items old.now after c.as_bytes.ensures.bytes some
    (c.in_ok-there.ensures.reads.told (current_own _ own) tt clean))
