use Rattle.portal_store.proofs.Base.{IsTransition, IsTransitionFrom, change_model, state, survives_weaker}
use Rattle.portal_store.proofs.Ended.{ends_refused, ends_then, leaves_then}
use Rattle.portal_store.proofs.Opened.{ends_any}
use Rattle.portal_store.proofs.Rounds.{held_in, turned_in}
use Rattle.portal_store.proofs.changing.change.commit_change.Goals as goal

pub returns-in_err-round-clause-ends : goal.returns-in_err-round-clause-ends
returns-in_err-round-clause-ends g c =
    ends_refused c.from_residual.ensures.0 c.outside_transaction.ensures.committed c.in_err-round.ensures

pub returns-clause-ends : goal.returns-clause-ends
returns-clause-ends g c =
    let change = change_model c.args.change.now in
    let round = c.in_ok-round.round in
    let old = state g.S.Store c.args.conn.now in
    ends_then {C = IsTransitionFrom round change} c.in_ok-round.ensures
    (ends_any round change c.commit_in_round.result (state g.S.Store c.round_in.new.conn)
    (state g.S.Store c.commit_in_round.new.conn) c.commit_in_round.ensures.ends c.commit_in_round.ensures.opens)
    (λ own clean after turns holds good better. turned_in round change old.now after turns
    (held_in round old.now holds (c.in_ok-round.ensures.told own holds.1.sound clean)) good better)

pub returns-in_err-round-clause-left : goal.returns-in_err-round-clause-left
returns-in_err-round-clause-left g c =
    survives_weaker (state g.S.Store c.args.conn.now) (state g.S.Store c.round_in.new.conn) _ _
    (λ clean db no. absurd no) c.round_in.ensures.crash

pub returns-clause-left : goal.returns-clause-left
returns-clause-left g c =
    let change = change_model c.args.change.now in
    let round = c.in_ok-round.round in
    let old = state g.S.Store c.args.conn.now in
    leaves_then {C = IsTransitionFrom round change} (IsTransition change) c.in_ok-round.ensures
    (ends_any round change c.commit_in_round.result (state g.S.Store c.round_in.new.conn)
    (state g.S.Store c.commit_in_round.new.conn) c.commit_in_round.ensures.ends c.commit_in_round.ensures.opens)
    (λ own clean after turns holds good better. turned_in round change old.now after turns
    (held_in round old.now holds (c.in_ok-round.ensures.told own holds.1.sound clean)) good better)
