use Rattle.portal_store.proofs.Base.{◌∙◌, reads_any, reads_handed, reads_more, state, sym}
use Rattle.portal_store.proofs.Rounds.{first_by, second_by, tells_phase}
use Rattle.portal_store.proofs.reading.round.round_in.Goals as goal

pub returns-in_err-second_in : goal.returns-in_err-second_in
returns-in_err-second_in g c =
    reads_handed c.from_residual.ensures.1 (reads_any c.in_err-second_in.ensures)
    (λ own sound told round damaged second. let it = tells_phase round _ second in told it.0 damaged it.1)

pub returns-then-is_setup : goal.returns-then-is_setup
returns-then-is_setup g c =
    let f = c.in_ok-second_in in
    reads_more tt (reads_any f.ensures) (λ own sound row. first_by (state g.S.Store c.args.conn.now).now.trees f.field-0 (row sound)
    (sym c.is_setup.ensures ∙ c.if-is_setup.true))

pub returns-else-is_setup : goal.returns-else-is_setup
returns-else-is_setup g c =
    let f = c.in_ok-second_in in
    reads_more tt (reads_any f.ensures) (λ own sound row. second_by (state g.S.Store c.args.conn.now).now.trees f.field-0 (row sound)
    (sym c.is_setup.ensures ∙ c.if-is_setup.false))
