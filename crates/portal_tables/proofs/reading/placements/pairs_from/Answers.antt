use Rattle.portal_tables.proofs.Base.{arith, ap, ◌∙◌, filter_map, take_all, first_pair}
use Rattle.portal_tables.proofs.InTurn.{next_given}
use Rattle.portal_tables.proofs.reading.placements.pairs_from.Goals as goal

pub loop-row-preserved : goal.loop-row-preserved
loop-row-preserved c =
    c.in_ok-push_some.ensures
    ∙ next_given first_pair c.args.rows.now c.loop-row.row-index c.row-item.result c.loop-row.pairs.items c.in_ok-pair.pair c.row-item.is
    c.loop-row-test.true c.loop-row.invariant c.in_ok-pair.ensures.ok

pub returns-clause-ok : goal.returns-clause-ok
returns-clause-ok c = c.loop-row.invariant
    ∙ ap (filter_map first_pair) (take_all c.loop-row.row-index c.args.rows.now (omega (arith, c.loop-row-test.false)))
