use Rattle.portal_tables.proofs.Base.{◌≡◌, map, take, place_new, list_cells}
use Rattle.portal_tables.proofs.writing.put.places_of.Given as goal

abbrev pub invariant-loop-item : goal.invariant-loop-item
invariant-loop-item l = record {
  at : l.place ≡ l.item-index;
  is : map place_new l.rows.items ≡ list_cells l.owner (take l.item-index l.items);
}
