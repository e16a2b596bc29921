use Rattle.spa_rows.proofs.Base.{◌<◌, map, length, sym, refl, ap, arith, not, length-map, get_or_default, false≢true}
use Rattle.spa_rows.proofs.Lists.{map_at}
use Rattle.spa_rows.proofs.Seen.{tree_more, tree_before}
use Rattle.spa_rows.proofs.least.repeats.Goals as goal

pub returns-then-not-branch : goal.returns-then-not-branch
returns-then-not-branch c =
    let bound : c.loop-text.text-index < length (map (λ t. t.items) c.args.list.now) =
    rw (length-map c.args.list.now (λ t. t.items)) c.loop-text-test.true in
    let at = map_at (λ t. t.items) c.args.list.now c.loop-text.text-index c.text-item.result c.text-item.result.items c.loop-text-test.true
    (sym c.text-item.is) in
    let earlier = tree_before (map (λ t. t.items) c.args.list.now)
    (λ t. t) c.loop-text.seen c.as_slice.result c.in_ok-insert.field-0 c.loop-text.text-index c.text-item.result.items
    c.in_ok-insert.ensures.added c.as_slice.ensures.value c.loop-text.invariant.seen in
    (λ _. (c.loop-text.text-index, c.text-item.result.items, bound, at, earlier.0 (ap not c.if-not-branch.true)), λ _. refl)

pub loop-text-preserved : goal.loop-text-preserved
loop-text-preserved c =
    let bound : c.loop-text.text-index < length (map (λ t. t.items) c.args.list.now) =
    rw (length-map c.args.list.now (λ t. t.items)) c.loop-text-test.true in
    let at = map_at (λ t. t.items) c.args.list.now c.loop-text.text-index c.text-item.result c.text-item.result.items c.loop-text-test.true
    (sym c.text-item.is) in
    let earlier = tree_before (map (λ t. t.items) c.args.list.now)
    (λ t. t) c.loop-text.seen c.as_slice.result c.in_ok-insert.field-0 c.loop-text.text-index c.text-item.result.items
    c.in_ok-insert.ensures.added c.as_slice.ensures.value c.loop-text.invariant.seen in
    record {
      seen = tree_more (map (λ t. t.items) c.args.list.now)
          (λ t. t) c.loop-text.seen c.insert.new.self c.as_slice.result c.loop-text.text-index c.text-item.result.items
          c.in_ok-insert.ensures.updates c.as_slice.ensures.value bound at c.loop-text.invariant.seen;
      distinct = λ j text below is repeated. grind (arith, get_or_default, false≢true);
    }
