use Rattle.spa_rows.proofs.Base.{◌<◌, ◌↔◌, ◌++◌, IsTrue, All, drop, length, length-append, length-drop}
use Rattle.spa_rows.proofs.Base.{length-take, sym, arith, Differ, Repeats}
use Rattle.spa_rows.proofs.LeastRow.{least_step, least_all}
use Rattle.spa_rows.proofs.Lists.{zip_at}
use Rattle.spa_rows.proofs.least.repeat_in_list.Goals as goal

pub list_repeats-requires-clause-below : goal.list_repeats-requires-clause-below
list_repeats-requires-clause-below g c =
    let own : All (λ n. n < c.args.count) c.deref.result.now =
    rw (c.deref.ensures.value, c.index-numbers-place.is)
    (c.requires.below c.loop-place.place c.index-numbers-place.result (omega arith)) in
    λ k d h. omega (arith, own k d h)

pub list_repeats-requires-clause-apart : goal.list_repeats-requires-clause-apart
list_repeats-requires-clause-apart g c =
    let own : Differ c.index-numbers-place.result.items → Repeats (g.L.HasList.list_of c.index-lines-place.result)
    → ⊥ = rw (← c.index-numbers-place.is, ← c.index-lines-place.is) at
    (zip_at (λ x own. Differ own.items → Repeats (g.L.HasList.list_of x) → ⊥) c.args.lines.now c.args.numbers.now c.loop-place.place
    c.index-lines-place.result c.index-numbers-place.result c.loop-place-test.true c.requires.apart) in
    rw (c.deref.ensures.value, c.list.ensures) own

pub loop-place-preserved : goal.loop-place-preserved
loop-place-preserved g c =
    let new = c.list_repeats.new.marks in
    let rest = drop (length new) c.loop-place.marks.items in
    let tells : IsTrue c.in_ok-is_bad.is_bad
    ↔ Repeats (g.L.HasList.list_of c.index-lines-place.result) = rw (← c.list.ensures) c.in_ok-is_bad.ensures.repeats in
    record {
      count = omega (
        arith,
        length-take c.loop-place.marks.len (new ++ rest),
        length-append new rest,
        length-drop (length new) c.loop-place.marks.items,
      );
      best = least_step c.args.lines.now g.L.Line.row_of
          (λ _ x. Repeats (g.L.HasList.list_of x)) c.loop-place.place c.index-lines-place.result c.loop-place.best _ _ _
          c.least_with-best.ensures c.row.ensures c.loop-place-test.true (sym c.index-lines-place.is) tells c.loop-place.invariant.best;
    }

pub returns : goal.returns
returns g c = least_all c.args.lines.now g.L.Line.row_of (λ _ x. Repeats (g.L.HasList.list_of x)) c.loop-place.place c.loop-place.best
    (omega arith) c.loop-place.invariant.best
