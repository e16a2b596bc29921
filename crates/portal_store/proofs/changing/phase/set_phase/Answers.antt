use Rattle.portal_store.proofs.Base.{HasCleanDisk, IsTransitionIn, To, arith, state}
use Rattle.portal_store.proofs.Ended.{ends_asked, ends_refused}
use Rattle.portal_store.proofs.changing.phase.set_phase.Goals as goal

pub returns-in_err-read-clause-ends : goal.returns-in_err-read-clause-ends
returns-in_err-read-clause-ends g c =
    ends_refused c.from_residual.ensures.0 c.outside_transaction.ensures.committed c.in_err-read.ensures

pub returns-clause-ends : goal.returns-clause-ends
returns-clause-ends g c =
    ends_asked (IsTransitionIn c.args.round (To c.args.phase)) c.commit-2.ensures.idle c.commit-2.ensures.ok c.commit-2.ensures.err
    c.commit-2.ensures.durable c.commit-2.ensures.crash
    c.in_ok-read.ensures (λ own clean after turns. turns)

pub returns-clause-entries : goal.returns-clause-entries
returns-clause-entries g c own holds good clean was =
    let early : HasCleanDisk (state g.S.Store c.load_entries.new.conn) = omega (arith, clean, c.commit-2.ensures.crash.clean) in
    c.in_ok-read.ensures.told own holds.1.sound early good.sound
