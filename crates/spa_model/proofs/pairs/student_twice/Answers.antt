use Rattle.spa_model.proofs.Base.{◌≡◌, ◌<◌, true, false, get_or, sym, ap, length, arith, refl, ◌∙◌, get_or_default}
use Rattle.spa_model.proofs.Base.{length-map, length-set, StudentTwice, student_in, least_step, least_all, rules}
use Rattle.spa_model.proofs.PairFaults.{IsBadPair, number_at, stands_before, stood_before, marks_more}
use Rattle.spa_model.proofs.pairs.student_twice.Goals as goal

pub index-requires : goal.index-requires
index-requires c = search (rules, c.requires.known, length-map)

pub index_mut-requires : goal.index_mut-requires
index_mut-requires c = search (rules, c.requires.known, length-map)

pub loop-j-preserved : goal.loop-j-preserved
loop-j-preserved c =
    let s : get_or c.args.students.now c.loop-j.j 0
    ≡ student_in c.args.instance.now c.index-lines-j.result =
    number_at (student_in c.args.instance.now) c.args.lines.now c.args.students.now c.loop-j.j c.index-lines-j.result
    c.requires.students c.loop-j-test.true (sym c.index-lines-j.is) in
    let long : length c.args.students.now ≡ length c.args.lines.now = ap length c.requires.students
    ∙ length-map c.args.lines.now (student_in c.args.instance.now) in
    let there = c.requires.known c.loop-j.j 0 (omega arith) in
    let in_range : get_or c.args.students.now c.loop-j.j 0 < length c.loop-j.seen.items = omega arith in
    let mark : c.index.result.now ≡ get_or c.loop-j.seen.items (get_or c.args.students.now c.loop-j.j 0) false = c.index.ensures
    ∙ get_or_default c.loop-j.seen.items (get_or c.args.students.now c.loop-j.j 0) c.index.result.now false in_range in
    let marks = c.loop-j.invariant.marks (get_or c.args.students.now c.loop-j.j 0) in_range in
    record {
      size = length-set c.loop-j.seen.items (get_or c.args.students.now c.loop-j.j 0) true ∙ c.loop-j.invariant.size;
      marks = marks_more c.loop-j.seen.items c.args.students.now c.loop-j.j (get_or c.args.students.now c.loop-j.j 0)
          (omega arith) refl in_range c.loop-j.invariant.marks;
      least = least_step c.args.lines.now (λ x. x.row)
          (IsBadPair c.args.instance.now c.args.lines.now StudentTwice) c.loop-j.j c.index-lines-j.result c.loop-j.best _ _ _
          c.least_with-best.ensures (ap (λ x. x.row) c.line.view_is) c.loop-j-test.true (sym c.index-lines-j.is) (
            λ yes. stood_before c.args.instance.now c.args.lines.now c.args.students.now c.loop-j.j c.index-lines-j.result
                c.students.ensures.lawful c.requires.students c.loop-j-test.true (rw s at there) (rw s at (marks.0 (sym mark ∙ yes))),
            λ bad. mark ∙ marks.1 (rw s (stands_before c.args.instance.now c.args.lines.now c.args.students.now c.loop-j.j
                c.index-lines-j.result c.requires.students c.loop-j-test.true bad)),
          )
          c.loop-j.invariant.least;
    }

pub returns : goal.returns
returns c = least_all c.args.lines.now (λ x. x.row) (IsBadPair c.args.instance.now c.args.lines.now StudentTwice) c.loop-j.j c.loop-j.best
    (omega arith) c.loop-j.invariant.least
