use Rattle.portal_tables.proofs.Base.{◌∙◌, map-id, state, subst, sym}
use Rattle.portal_tables.specs.inner.Queries.{QueryShows}
use Rattle.portal_tables.proofs.InTurn.{reads_as, if_answered, its_own}
use Rattle.portal_tables.proofs.sql.select.read_rows.Goals as goal

pub returns-clause-reads : goal.returns-clause-reads
returns-clause-reads g c =
    let Shown = QueryShows c.args.query (state g.S.Store c.args.conn.now).now.trees in
    reads_as (its_own _ c.read_each.result) c.read_each.ensures.reads (λ no. no)
    (λ own right told. if_answered c.read_each.result _ _ _ told (λ v all. subst Shown (sym (all.decoded ∙ map-id all.rows)) all.shown))
