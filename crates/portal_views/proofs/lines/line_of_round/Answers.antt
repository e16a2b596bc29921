use Rattle.portal_views.proofs.Base.{◌∙◌, HasSecondPlace, reads_handed, reads_more, reads_open, rules, state, subst}
use Rattle.portal_views.proofs.Base.{sym}
use Rattle.portal_views.proofs.lines.line_of_round.Goals as goal

pub returns-in_err-placed-in-Second : goal.returns-in_err-placed-in-Second
returns-in_err-placed-in-Second g c =
    rw c.in-Second.is (reads_handed c.from_residual.ensures.1 (reads_open c.in_err-placed-in-Second.ensures)
    (λ own sound no r is damaged place. no damaged
    (subst (HasSecondPlace (state g.S.Store c.args.conn.now).now.trees) (is ∙ sym c.as_bytes.ensures.bytes) place)))

pub returns-in_ok-placed-in-Second : goal.returns-in_ok-placed-in-Second
returns-in_ok-placed-in-Second g c = rw c.in-Second.is
    (reads_more tt (reads_open c.in_ok-placed-in-Second.ensures) (λ own sound told. search (rules, told)))
