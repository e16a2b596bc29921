use Rattle.portal_tables.proofs.Base.{◌∙◌, Err, ap, IfOk-weaker, state, bound}
use Rattle.portal_tables.proofs.Decoded.{none_refused}
use Rattle.portal_tables.proofs.Shows.{plain, shows, ends, asks}
use Rattle.portal_tables.proofs.InTurn.{answered, IfErr-known}
use Rattle.portal_tables.proofs.Reasons.{stop_reason}
use Rattle.portal_tables.proofs.sql.select.read_each.Goals as goal

pub returns-clause-reads : goal.returns-clause-reads
returns-clause-reads g c =
    let old = state g.S.Store c.args.conn.now in
    let new = state g.S.Store c.query_each.new.conn in
    let schema = c.args.conn.now.schema in
    let values = ap bound c.values.ensures ∙ c.value.ensures in
    let it = c.query_each.ensures in
    asks c.args.query _ _ c.text.ensures values c.query_each.result old new it.leaves.same it.leaves.err it.leaves.mode it.leaves.survives
    (λ own clean.
    let sure = plain c.args.query _ _ c.text.ensures values schema in
    answered c.query_each.result _ _ (IfOk-weaker c.query_each.result _ _
    (λ v all. record {
      rows = all.rows;
      shown = shows c.args.query _ _ c.text.ensures values old new all.rows own all.shown;
      decoded = all.decoded;
    }) (it.rows sure clean))
    (λ e is blamed. none_refused g.T.FromCells.is_fine _ c.text.result.now (bound c.values.result.now) old new sure
    (λ rows. shows c.args.query _ _ c.text.ensures values old new rows own) (ends c.args.query _ _ c.text.ensures values schema own)
    (it.refused sure clean (is ∙ ap Err blamed))))
    (λ own clean. IfErr-known c.query_each.result _ (λ e is its. stop_reason c.args.query _ _ c.text.ensures values old new own
    (it.stopped (plain c.args.query _ _ c.text.ensures values schema) clean (is ∙ ap Err its))))
