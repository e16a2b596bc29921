use Rattle.portal_store.proofs.Fine.{office_code}
use Rattle.portal_store.proofs.Base.{reads_any, reads_more, state, version, reads_handed}
use Rattle.portal_store.proofs.Rounds.{office_told}
use Rattle.portal_store.proofs.reading.round.office_code.Goals as goal

pub returns : goal.returns
returns g c =
    reads_more tt (reads_any c.in_ok-office.ensures)
    (λ own sound row. office_told (state g.S.Store c.args.conn.now).now.trees c.in_ok-office.office.phase c.in_ok-office.office.code
    (row sound))

pub returns-in_err-office : goal.returns-in_err-office
returns-in_err-office g c =
    reads_handed c.from_residual.ensures.1 (reads_any c.in_err-office.ensures)
    (λ own sound told round damaged stands. told stands.office damaged (office_code round version _ stands.office stands.good))
