use Rattle.spa_rows.proofs.Base.{sym, arith, IsEarlierKey}
use Rattle.spa_rows.proofs.LeastRow.{least_step, least_all}
use Rattle.spa_rows.proofs.Seen.{tree_more, tree_before}
use Rattle.spa_rows.proofs.least.key_twice.Goals as goal

pub loop-line-preserved : goal.loop-line-preserved
loop-line-preserved g c =
    let tells = tree_before c.args.lines.now g.L.Line.key_of c.loop-line.seen c.key.result c.in_ok-is_new.is_new c.loop-line.line-index
    c.line-item.result c.in_ok-is_new.ensures.added c.key.ensures c.loop-line.invariant.seen in
    record {
      seen = tree_more c.args.lines.now g.L.Line.key_of c.loop-line.seen c.insert.new.self c.key.result c.loop-line.line-index
          c.line-item.result c.in_ok-is_new.ensures.updates c.key.ensures c.loop-line-test.true
          (sym c.line-item.is) c.loop-line.invariant.seen;
      best = least_step c.args.lines.now g.L.Line.row_of
          (λ j x. IsEarlierKey c.args.lines.now g.L.Line.key_of j (g.L.Line.key_of x)) c.loop-line.line-index c.line-item.result
          c.loop-line.best _ _ _ c.least_with-best.ensures c.row.ensures c.loop-line-test.true
          (sym c.line-item.is) tells c.loop-line.invariant.best;
    }

pub returns : goal.returns
returns g c = least_all c.args.lines.now g.L.Line.row_of
    (λ j x. IsEarlierKey c.args.lines.now g.L.Line.key_of j (g.L.Line.key_of x)) c.loop-line.line-index c.loop-line.best
    (omega arith) c.loop-line.invariant.best
