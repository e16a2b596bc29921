use Rattle.spa_rows.proofs.Base.{subst, take_all, HasNumber, rules}
use Rattle.spa_rows.proofs.Lists.{zip_more, zip_map}
use Rattle.spa_rows.proofs.index.LineIndex.numbers.Goals as goal

pub loop-text-preserved : goal.loop-text-preserved
loop-text-preserved g c =
    let has : HasNumber c.args.self.now g.L.Line.key_of c.text-item.result.items c.number.result =
    subst (λ t. HasNumber c.args.self.now g.L.Line.key_of t c.number.result) c.deref.ensures.value c.number.ensures in
    rw c.in_ok-push.ensures.items (zip_more (λ text n. HasNumber c.args.self.now g.L.Line.key_of text.items n) c.args.list.now
    c.loop-text.numbers.items c.loop-text.text-index c.text-item.result c.number.result c.loop-text-test.true c.text-item.is
    c.loop-text.invariant has)

pub returns : goal.returns
returns g c = search (rules, zip_map, take_all)
