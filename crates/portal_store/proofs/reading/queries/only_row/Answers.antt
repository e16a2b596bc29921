use Rattle.portal_tables.proofs.InTurn.{not_stores, judged}
use Rattle.portal_store.proofs.Base.{IfOk-weaker, reads_handed, reads_more, state, subst, sym, ap, Err}
use Rattle.portal_tables.specs.inner.Queries.{QueryShows}
use Rattle.portal_store.proofs.reading.queries.only_row.Goals as goal

pub returns-in_err-rows : goal.returns-in_err-rows
returns-in_err-rows g c = reads_handed c.from_residual.ensures.1 c.in_err-rows.ensures.reads
    (λ own any told damaged few. c.in_err-rows.ensures.undamaged (ap Err damaged))

pub returns : goal.returns
returns g c =
    reads_more (not_stores c.at_most_one.result c.at_most_one.ensures.store) c.in_ok-rows.ensures.reads
    (λ own any shown. judged c.at_most_one.result _ _ (IfOk-weaker c.at_most_one.result _ _
    (λ row is. subst (QueryShows c.args.query (state g.S.Store c.args.conn.now).now.trees) (sym is) shown) c.at_most_one.ensures.ok)
    (λ damaged few. c.at_most_one.ensures.damaged damaged (few _ shown)))
