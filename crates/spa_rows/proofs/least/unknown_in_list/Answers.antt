use Rattle.spa_rows.proofs.Base.{◌≡◌, ◌↔◌, [], IsTrue, Contains, map, get_or, sym, arith}
use Rattle.spa_rows.proofs.LeastRow.{least_step, least_all}
use Rattle.spa_rows.proofs.Lists.{map_at}
use Rattle.spa_rows.proofs.Numbers.{contains_answer}
use Rattle.spa_rows.proofs.least.unknown_in_list.Goals as goal

pub loop-place-preserved : goal.loop-place-preserved
loop-place-preserved g c =
    let here : get_or (map (λ own. own.items) c.args.numbers.now) c.loop-place.place []
    ≡ c.index-numbers-place.result.items = map_at
    (λ own. own.items) c.args.numbers.now c.loop-place.place c.index-numbers-place.result [] (omega arith)
    (sym c.index-numbers-place.is) in
    let tells : IsTrue c.contains-is_bad.result
    ↔ Contains (get_or (map (λ own. own.items) c.args.numbers.now) c.loop-place.place []) c.args.unknown =
    rw (here, ← c.deref.ensures.value) (contains_answer c.deref.result.now c.args.unknown c.contains-is_bad.result
    c.contains-is_bad.ensures.cases) in
    least_step c.args.lines.now g.L.Line.row_of
    (λ j _. Contains (get_or (map (λ own. own.items) c.args.numbers.now) j []) c.args.unknown) c.loop-place.place
    c.index-lines-place.result c.loop-place.best _ _ _ c.least_with-best.ensures c.row.ensures c.loop-place-test.true
    (sym c.index-lines-place.is) tells c.loop-place.invariant

pub returns : goal.returns
returns g c = least_all c.args.lines.now g.L.Line.row_of
    (λ j _. Contains (get_or (map (λ own. own.items) c.args.numbers.now) j []) c.args.unknown) c.loop-place.place c.loop-place.best
    (omega arith) c.loop-place.invariant
