use Rattle.spa_rows.proofs.Base.{sym, arith, subst, IsIndexOf}
use Rattle.spa_rows.proofs.Indexed.{index_more}
use Rattle.spa_rows.proofs.index.LineIndex.of.Goals as goal

pub loop-place-preserved : goal.loop-place-preserved
loop-place-preserved g c =
    index_more c.args.lines.now g.L.Line.key_of c.loop-place.places c.insert.new.self c.key.result c.loop-place.place
    c.index-lines-place.result c.in_ok-insert.ensures.updates c.key.ensures c.loop-place-test.true
    (sym c.index-lines-place.is) c.loop-place.invariant

pub invariant_of-result : goal.invariant_of-result
invariant_of-result g c = subst (λ n. IsIndexOf c.args.lines.now g.L.Line.key_of n c.loop-place.places) (omega arith) c.loop-place.invariant
