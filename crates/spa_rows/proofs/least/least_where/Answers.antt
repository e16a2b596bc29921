use Rattle.std.specs.Fn.{FnReturnsAt}
use Rattle.spa_rows.proofs.Base.{◌≡◌, length, refl, sym, arith, rules}
use Rattle.spa_rows.proofs.LeastRow.{told_none, told_step}
use Rattle.spa_rows.proofs.least.least_where.Goals as goal

pub loop-line-init : goal.loop-line-init
loop-line-init g c = search (rules, told_none)

pub loop-line-preserved : goal.loop-line-preserved
loop-line-preserved g c = told_step _ _ (FnReturnsAt g.F.Fn c.args.is_bad) c.loop-line.line-index c.line-item.result c.loop-line.best _ _ _
    c.least_with-best.ensures c.row.ensures c.loop-line-test.true (sym c.line-item.is)
    (record { shown = _; shows = refl; says = record { met = c.is_bad.ensures } }) c.loop-line.invariant

pub returns : goal.returns
returns g c =
    let all : c.loop-line.line-index ≡ length c.args.lines.now = omega arith in
    rw (← all) c.loop-line.invariant
