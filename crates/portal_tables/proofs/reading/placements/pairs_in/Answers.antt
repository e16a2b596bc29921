use Rattle.portal_tables.proofs.Base.{◌∙◌, ap, arith, rules, filter_map, take_all, state, pair_shown, IsStudent}
use Rattle.portal_tables.proofs.Base.{HasPlacementAsked, shown_student}
use Rattle.portal_tables.proofs.InTurn.{reads_self, reads_then, reads_more, reads_handed, reads_short, at_item}
use Rattle.portal_tables.proofs.InTurn.{next_given}
use Rattle.portal_tables.proofs.reading.placements.pairs_in.Goals as goal

pub returns-in_err-pair : goal.returns-in_err-pair
returns-in_err-pair g c =
    let rows = c.args.rows.now in
    reads_handed c.from_residual.ensures.1 (reads_then c.loop-row.invariant c.in_err-pair.ensures)
    (λ own sound told blamed it.
    told.1 blamed (
      at_item (λ c. IsStudent (shown_student c)) rows _ _ c.row-item.is c.loop-row-test.true it.0,
      at_item (HasPlacementAsked c.args.round c.args.phase (state g.S.Store c.args.conn.now).now.trees) rows _ _ c.row-item.is
          c.loop-row-test.true it.1,
    ))

pub returns-in_err-push_some : goal.returns-in_err-push_some
returns-in_err-push_some g c = reads_short c.from_residual-in_err-push_some.ensures.1 (reads_then c.loop-row.invariant c.in_ok-pair.ensures)
    (λ own sound told blamed. absurd (cc))

pub loop-row-preserved : goal.loop-row-preserved
loop-row-preserved g c =
    let f = pair_shown c.args.round c.args.phase (state g.S.Store c.args.conn.now).now.trees in
    reads_more tt (reads_then c.loop-row.invariant c.in_ok-pair.ensures)
    (λ own sound told.
    c.in_ok-push_some.ensures
    ∙ next_given f c.args.rows.now c.loop-row.row-index c.row-item.result c.loop-row.pairs.items c.in_ok-pair.pair c.row-item.is
    c.loop-row-test.true told.0 told.1)

pub loop-row-init : goal.loop-row-init
loop-row-init g c = reads_self tt (λ own sound. search rules)

pub returns : goal.returns
returns g c =
    let f = pair_shown c.args.round c.args.phase (state g.S.Store c.args.conn.now).now.trees in
    reads_more tt c.loop-row.invariant (λ own sound is. is
    ∙ ap (filter_map f) (take_all c.loop-row.row-index c.args.rows.now (omega (arith, c.loop-row-test.false))))
