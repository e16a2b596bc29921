use Rattle.spa_model.proofs.Base.{◌≡◌, ◌+◌, ◌<◌, eqb, map, set, get_or, sym, ap, length, take, arith, ◌∙◌}
use Rattle.spa_model.proofs.Base.{get_or_default, get_or-map, length-map, length-set, count_by, LecturerOver}
use Rattle.spa_model.proofs.Base.{length-take-le, count_by-le-length, lecturer_of, project_in, lecturer_in, rules}
use Rattle.spa_model.proofs.Base.{ltb-true, lt-ltb, least_step, least_all}
use Rattle.spa_model.proofs.PairFaults.{IsBadPair, AreCounts, number_at, counts_more, count_pairs, lecturers_are}
use Rattle.spa_model.proofs.pairs.lecturer_over.Goals as goal

pub lecturer_of-l-requires : goal.lecturer_of-l-requires
lecturer_of-l-requires c = search (rules, c.requires.known, length-map)

pub overflow_add-index_mut : goal.overflow_add-index_mut
overflow_add-index_mut c = search (rules, get_or_default, length-map, count_by-le-length, length-take-le)

pub loop-j-preserved : goal.loop-j-preserved
loop-j-preserved c =
    let p : get_or c.args.projects.now c.loop-j.j 0
    ≡ project_in c.args.instance.now c.index-lines-j.result =
    number_at (project_in c.args.instance.now) c.args.lines.now c.args.projects.now c.loop-j.j c.index-lines-j.result
    c.requires.projects c.loop-j-test.true (sym c.index-lines-j.is) in
    let in_range : c.lecturer_of-l.result < length c.loop-j.counts.items = omega arith in
    let old : c.index_mut.result.now ≡ get_or c.loop-j.counts.items c.lecturer_of-l.result 0 = c.index_mut.ensures.value
    ∙ get_or_default c.loop-j.counts.items c.lecturer_of-l.result c.index_mut.result.now 0 in_range in
    let long : length c.args.projects.now ≡ length c.args.lines.now = ap length c.requires.projects
    ∙ length-map c.args.lines.now (project_in c.args.instance.now) in
    let long_too : length (map (lecturer_of c.args.instance.now) c.args.projects.now)
    ≡ length c.args.projects.now = length-map c.args.projects.now (lecturer_of c.args.instance.now) in
    let at : get_or (map (lecturer_of c.args.instance.now) c.args.projects.now) c.loop-j.j 0
    ≡ c.lecturer_of-l.result = get_or-map (lecturer_of c.args.instance.now) c.args.projects.now c.loop-j.j 0 0 (omega arith)
    ∙ sym c.lecturer_of-l.ensures.gives in
    let l : c.lecturer_of-l.result ≡ lecturer_in c.args.instance.now c.index-lines-j.result = c.lecturer_of-l.ensures.gives
    ∙ ap (lecturer_of c.args.instance.now) p in
    let size = length-set c.loop-j.counts.items c.lecturer_of-l.result (c.index_mut.result.now + 1) in
    let counts : AreCounts (set c.loop-j.counts.items c.lecturer_of-l.result (c.index_mut.result.now + 1)) (map (lecturer_of c.args.instance.now) c.args.projects.now) (c.loop-j.j + 1) =
    rw old (counts_more c.loop-j.counts.items (map (lecturer_of c.args.instance.now) c.args.projects.now) c.loop-j.j c.lecturer_of-l.result
    (omega arith) at in_range c.loop-j.invariant.counts) in
    let new : c.index.result.now ≡ count_by (λ k. eqb k c.lecturer_of-l.result) (take (c.loop-j.j + 1) (map (lecturer_of c.args.instance.now) c.args.projects.now)) =
    c.index.ensures ∙ get_or_default (set c.loop-j.counts.items c.lecturer_of-l.result (c.index_mut.result.now + 1)) c.lecturer_of-l.result
    c.index.result.now 0 (omega arith) ∙ counts c.lecturer_of-l.result (omega arith) in
    let pairs = count_pairs (lecturer_in c.args.instance.now) c.args.lines.now (map (lecturer_of c.args.instance.now) c.args.projects.now)
    (c.loop-j.j + 1) c.lecturer_of-l.result (lecturers_are c.args.instance.now c.args.lines.now c.args.projects.now
    c.requires.projects) in
    record {
      size = size ∙ c.loop-j.invariant.size;
      counts = counts;
      least = least_step c.args.lines.now (λ x. x.row)
          (IsBadPair c.args.instance.now c.args.lines.now LecturerOver) c.loop-j.j c.index-lines-j.result c.loop-j.best _ _ _
          c.least_with-best.ensures (ap (λ x. x.row) c.line.view_is) c.loop-j-test.true (sym c.index-lines-j.is) (
            λ over. rw (← l) (omega (arith, ltb-true _ _ over)),
            λ bad. let more = rw (← l) at bad in
                lt-ltb _ _ (omega arith),
          ) c.loop-j.invariant.least;
    }

pub returns : goal.returns
returns c = least_all c.args.lines.now (λ x. x.row) (IsBadPair c.args.instance.now c.args.lines.now LecturerOver) c.loop-j.j c.loop-j.best
    (omega arith) c.loop-j.invariant.least
