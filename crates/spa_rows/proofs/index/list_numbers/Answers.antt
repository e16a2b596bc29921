use Rattle.spa_rows.proofs.Base.{map, subst, HaveNumbers}
use Rattle.spa_rows.proofs.Lists.{zip_more}
use Rattle.spa_rows.proofs.index.list_numbers.Goals as goal

pub loop-owner-preserved : goal.loop-owner-preserved
loop-owner-preserved g c =
    let own = c.in_ok-numbers-2.field-0.items in
    let has : HaveNumbers c.args.lines.now g.K.Line.key_of (map (λ text. text.items) c.list.result.now) own =
    rw c.in_ok-places.ensures at c.in_ok-numbers-2.ensures in
    let mine : HaveNumbers c.args.lines.now g.K.Line.key_of (g.L.HasList.list_of c.owner-item.result) own =
    subst (λ texts. HaveNumbers c.args.lines.now g.K.Line.key_of texts own) c.list.ensures has in
    rw c.in_ok-push.ensures.items (zip_more (λ x own. HaveNumbers c.args.lines.now g.K.Line.key_of (g.L.HasList.list_of x) own.items)
    c.args.owners.now c.loop-owner.numbers.items c.loop-owner.owner-index c.owner-item.result c.in_ok-numbers-2.field-0
    c.loop-owner-test.true c.owner-item.is c.loop-owner.invariant mine)
