use Rattle.portal_list.proofs.Base.{arith, sym, ◌∙◌, Student, placement_in, placed_now}
use Rattle.portal_list.proofs.Placed.{one_placed}
use Rattle.portal_list.proofs.changes.placements.place_all.Goals as goal

pub loop-i-preserved : goal.loop-i-preserved
loop-i-preserved c =
    let more =
    one_placed (λ (s : Student). placement_in c.args.pairs.now s.row.key) placed_now c.args.students.now c.loop-i.students
    c.loop-i.places.items c.loop-i.i c.index-students-i.result c.place.new.student c.index_mut.result.now c.take.new.self
    (omega arith) c.loop-i.invariant.students c.loop-i.invariant.places c.index-students-i.is c.index_mut.ensures.value
    (c.place.ensures ∙ λ j. placed_now (sym c.index-students-i.is j) (c.take.ensures.value j)) in
    record { students = more.0; places = more.1 }
