use Rattle.portal_list.proofs.Base.{arith, sym, ◌∙◌, missing, with_missing}
use Rattle.portal_list.proofs.Placed.{one_placed}
use Rattle.portal_list.proofs.changes.fill.fill_rankings.Goals as goal

pub loop-i-preserved : goal.loop-i-preserved
loop-i-preserved c =
    let more =
    one_placed (missing c.args.projects.now c.args.students.now) with_missing c.args.lecturers.now c.loop-i.lecturers
    c.loop-i.rankings.items c.loop-i.i c.index-lecturers-i.result c.settle.new.lecturer c.index_mut.result.now c.take.new.self
    (omega arith) c.loop-i.invariant.lecturers c.loop-i.invariant.rankings c.index-lecturers-i.is c.index_mut.ensures.value
    (c.settle.ensures ∙ λ j. with_missing (sym c.index-lecturers-i.is j) (c.take.ensures.value j)) in
    record { lecturers = more.0; rankings = more.1 }
