use Rattle.portal_tables.proofs.Base.{◌∙◌, ap, IfOk-weaker, state, bound, survives_weaker, IfErr-weaker}
use Rattle.portal_tables.proofs.Decoded.{never_commits}
use Rattle.portal_tables.proofs.Queries.{shown_same, failed_leaves}
use Rattle.portal_tables.proofs.Repeated.{answers, fails}
use Rattle.portal_tables.proofs.Reasons.{reason}
use Rattle.portal_tables.proofs.Shows.{asks, shows}
use Rattle.portal_tables.proofs.sql.select.read.Goals as goal

pub returns-clause-reads : goal.returns-clause-reads
returns-clause-reads g c =
    let old = state g.S.Store c.args.conn.now in
    let new = state g.S.Store c.query_all.new.self in
    let values = ap bound c.values.ensures ∙ c.value.ensures in
    let it = c.query_all.ensures in
    asks c.args.query _ _ c.text.ensures values c.query_all.result old new
    (λ plain clean. IfOk-weaker c.query_all.result _ _ (λ v. shown_same _ _ old new v.items plain) (it.ok clean))
    (λ plain clean. IfErr-weaker c.query_all.result _ _ (λ e. failed_leaves _ _ old new e plain) (it.err clean)) it.mode
    (survives_weaker old new _ _ (λ _ db made plain. never_commits _ _ old db plain made) it.survives)
    (λ own clean. IfOk-weaker c.query_all.result _ _ (λ v. shows c.args.query _ _ c.text.ensures values old new v.items own) (it.ok clean))
    (λ own clean. IfErr-weaker c.query_all.result _ _ (λ e. reason c.args.query _ _ c.text.ensures values old new e own) (it.err clean))

pub returns-clause-answers : goal.returns-clause-answers
returns-clause-answers g c clean =
    let old = state g.S.Store c.args.conn.now in
    let new = state g.S.Store c.query_all.new.self in
    let values = ap bound c.values.ensures ∙ c.value.ensures in
    IfOk-weaker c.query_all.result _ _ (λ v. answers c.args.query _ _ c.text.ensures values old new v.items) (c.query_all.ensures.ok clean)

pub returns-clause-fails : goal.returns-clause-fails
returns-clause-fails g c clean =
    let old = state g.S.Store c.args.conn.now in
    let new = state g.S.Store c.query_all.new.self in
    let values = ap bound c.values.ensures ∙ c.value.ensures in
    IfErr-weaker c.query_all.result _ _ (λ e. fails c.args.query _ _ c.text.ensures values old new e) (c.query_all.ensures.err clean)
