use Rattle.portal_store.proofs.Base.{◌∙◌, OpensSecondRound, current_own, state, sym}
use Rattle.portal_store.proofs.Ended.{ends_asked, ends_none, ends_refused}
use Rattle.portal_store.proofs.Opened.{opens_in, opens_none}
use Rattle.portal_store.proofs.changing.second_round.open_second.Goals as goal

pub returns-in_err-phase : goal.returns-in_err-phase
returns-in_err-phase g c =
    ends_refused c.from_residual.ensures.0 c.outside_transaction.ensures.committed c.in_err-phase.ensures

pub returns-then-opens_from : goal.returns-then-opens_from
returns-then-opens_from g c =
    let old = state g.S.Store c.args.conn.now in
    let round = c.args.round in
    ends_asked OpensSecondRound c.commit.ensures.idle c.commit.ensures.ok c.commit.ensures.err c.commit.ensures.durable
    c.commit.ensures.crash c.in_ok-phase.ensures
    (λ own clean after opens holds. opens_in round c.in_ok-phase.phase old.now after (sym c.opens_from.ensures ∙ c.if-opens_from.true)
    (c.in_ok-phase.ensures.told (current_own _ own) holds.sound clean) opens holds)

pub returns-else-opens_from : goal.returns-else-opens_from
returns-else-opens_from g c =
    let old = state g.S.Store c.args.conn.now in
    let round = c.args.round in
    ends_none c.outside_transaction.ensures.committed (g.met.S.Store.settled c.first_phase.new.conn.store) c.in_ok-phase.ensures
    (λ own clean holds. opens_none round c.in_ok-phase.phase old.now (sym c.opens_from.ensures ∙ c.if-opens_from.false)
    (c.in_ok-phase.ensures.told (current_own _ own) holds.sound clean) holds)
