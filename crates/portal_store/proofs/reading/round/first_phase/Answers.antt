use Rattle.portal_store.proofs.Base.{reads_any, reads_handed, reads_more, state, version}
use Rattle.portal_store.proofs.Fine.{office_code}
use Rattle.portal_store.proofs.Rounds.{first_phase}
use Rattle.portal_store.proofs.reading.round.first_phase.Goals as goal

pub returns-in_err-office : goal.returns-in_err-office
returns-in_err-office g c =
    reads_handed c.from_residual.ensures.1 (reads_any c.in_err-office.ensures)
    (λ own sound told round damaged stands. told stands.office damaged (office_code round version _ stands.office stands.good))

pub returns : goal.returns
returns g c =
    let f = c.in_ok-office in
    reads_more tt (reads_any f.ensures)
    (λ own sound row. first_phase (state g.S.Store c.args.conn.now).now.trees f.office.phase f.office.code
    (row sound))
