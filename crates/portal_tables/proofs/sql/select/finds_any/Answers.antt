use Rattle.portal_tables.proofs.Base.{◌∙◌, ap, state, bound, IfErr-weaker}
use Rattle.portal_tables.proofs.Reasons.{stop_reason}
use Rattle.portal_tables.proofs.Decoded.{found_any}
use Rattle.portal_tables.proofs.Shows.{plain, shows, ends, asks}
use Rattle.portal_tables.proofs.sql.select.finds_any.Goals as goal

pub returns : goal.returns
returns g c =
    let old = state g.S.Store c.args.conn.now in
    let new = state g.S.Store c.query_any.new.conn in
    let schema = c.args.conn.now.schema in
    let values = ap bound c.values.ensures ∙ c.value.ensures in
    let it = c.query_any.ensures in
    asks c.args.query _ _ c.text.ensures values c.query_any.result old new it.leaves.same it.leaves.err it.leaves.mode it.leaves.survives
    (λ own clean.
    let sure = plain c.args.query _ _ c.text.ensures values schema in
    found_any _ c.text.result.now (bound c.values.result.now) old new sure
    (λ rows. shows c.args.query _ _ c.text.ensures values old new rows own) (ends c.args.query _ _ c.text.ensures values schema own)
    c.query_any.result (it.leaves.same sure clean) (it.none sure clean) (it.some sure clean))
    (λ own clean. IfErr-weaker c.query_any.result _ _ (λ e stops other. stop_reason c.args.query _ _ c.text.ensures values old new own
    (stops other)) (it.stopped (plain c.args.query _ _ c.text.ensures values schema) clean))
