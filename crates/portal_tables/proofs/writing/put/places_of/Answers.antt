use Rattle.portal_tables.proofs.Base.{◌+◌, pos, map, ap, ◌∙◌, NewPlace, place_new, place_cells}
use Rattle.portal_tables.proofs.Putting.{cells_next}
use Rattle.portal_tables.proofs.writing.put.places_of.Goals as goal

pub loop-item-preserved : goal.loop-item-preserved
loop-item-preserved c =
    let row : NewPlace = record { owner = c.as_bytes.result; place = c.loop-item.place + 1; item = c.as_bytes-in-loop-item.result } in
    record {
      at = ap (λ n. n + 1) c.loop-item.invariant.at;
      is = ap (map place_new) c.in_ok-push.ensures.items
          ∙ cells_next place_new c.loop-item.rows.items row c.args.owner.now c.item-item.result c.args.items.now c.loop-item.item-index
          c.loop-item.place c.loop-item.invariant.at c.loop-item-test.true c.item-item.is
          (λ i. place_cells (c.as_bytes.ensures.bytes i) (pos (c.loop-item.place + 1))
          (c.as_bytes-in-loop-item.ensures.bytes i)) c.loop-item.invariant.is;
    }
