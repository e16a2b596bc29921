use Rattle.portal_tables.proofs.Base.{subst, ap, ◌∙◌, flat_map, take_all, bound, Does, Ran, arith}
use Rattle.portal_tables.proofs.Runs.{does_nothing}
use Rattle.portal_tables.proofs.sql.insert.write_rows.Goals as goal

pub returns : goal.returns
returns g c =
    let params = ap bound c.deref.ensures.value ∙ c.loop-row.invariant
    ∙ ap (flat_map g.T.Target.values) (take_all c.loop-row.row-index c.args.rows.now (omega (arith, c.loop-row-test.false))) in
    subst (λ params. Does g.S.Store (Ran c.args.text.now params) c.write.result c.args.tx.now c.write.new.tx) params c.write.ensures

pub returns-in_err-put_values : goal.returns-in_err-put_values
returns-in_err-put_values g c = does_nothing g.S.Store c.from_residual.result c.from_residual.ensures.0 c.args.tx.now
