use Rattle.portal_list.proofs.Base.{◌≡◌, ◌++◌, take, drop, map, placement_in, with_place}
use Rattle.portal_list.proofs.changes.placements.place_all.Given as goal

abbrev pub invariant-loop-i : goal.invariant-loop-i
invariant-loop-i l = record {
  students : l.students ≡ map (with_place l.pairs) (take l.i l.initial.students) ++ drop l.i l.initial.students;
  places : drop l.i l.places.items ≡ map (λ s. placement_in l.pairs s.row.key) (drop l.i l.initial.students);
}
