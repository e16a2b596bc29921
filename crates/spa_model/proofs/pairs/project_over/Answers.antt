use Rattle.spa_model.proofs.Base.{◌≡◌, ◌+◌, ◌<◌, eqb, set, get_or, sym, ap, length, take, arith, refl, ◌∙◌}
use Rattle.spa_model.proofs.Base.{get_or_default, length-map, length-set, count_by, ProjectOver, length-take-le}
use Rattle.spa_model.proofs.Base.{count_by-le-length, project_in, rules, ltb-true, lt-ltb, least_step, least_all}
use Rattle.spa_model.proofs.PairFaults.{IsBadPair, AreCounts, number_at, counts_more, count_pairs}
use Rattle.spa_model.proofs.pairs.project_over.Goals as goal

pub index_mut-requires : goal.index_mut-requires
index_mut-requires c = search (rules, c.requires.known, length-map)

pub overflow_add-index_mut : goal.overflow_add-index_mut
overflow_add-index_mut c = search (rules, get_or_default, length-map, count_by-le-length, length-take-le)

pub index-requires : goal.index-requires
index-requires c = search (rules, c.requires.known, length-map)

pub project_capacity-requires : goal.project_capacity-requires
project_capacity-requires c = search (rules, c.requires.known, length-map)

pub loop-j-preserved : goal.loop-j-preserved
loop-j-preserved c =
    let p : get_or c.args.projects.now c.loop-j.j 0
    ≡ project_in c.args.instance.now c.index-lines-j.result =
    number_at (project_in c.args.instance.now) c.args.lines.now c.args.projects.now c.loop-j.j c.index-lines-j.result
    c.requires.projects c.loop-j-test.true (sym c.index-lines-j.is) in
    let long : length c.args.projects.now ≡ length c.args.lines.now = ap length c.requires.projects
    ∙ length-map c.args.lines.now (project_in c.args.instance.now) in
    let there = c.requires.known c.loop-j.j 0 (omega arith) in
    let in_range : (get_or c.args.projects.now c.loop-j.j 0) < length c.loop-j.counts.items = omega arith in
    let old : c.index_mut.result.now ≡ get_or c.loop-j.counts.items (get_or c.args.projects.now c.loop-j.j 0) 0 = c.index_mut.ensures.value
    ∙ get_or_default c.loop-j.counts.items (get_or c.args.projects.now c.loop-j.j 0) c.index_mut.result.now 0 in_range in
    let size = length-set c.loop-j.counts.items (get_or c.args.projects.now c.loop-j.j 0) (c.index_mut.result.now + 1) in
    let counts : AreCounts (set c.loop-j.counts.items (get_or c.args.projects.now c.loop-j.j 0) (c.index_mut.result.now + 1)) c.args.projects.now (c.loop-j.j + 1) =
    rw old (counts_more c.loop-j.counts.items c.args.projects.now c.loop-j.j (get_or c.args.projects.now c.loop-j.j 0)
    (omega arith) refl in_range c.loop-j.invariant.counts) in
    let new : c.index.result.now ≡ count_by (λ k. eqb k (get_or c.args.projects.now c.loop-j.j 0)) (take (c.loop-j.j + 1) c.args.projects.now) =
    c.index.ensures ∙ get_or_default (set c.loop-j.counts.items (get_or c.args.projects.now c.loop-j.j 0) (c.index_mut.result.now + 1))
    (get_or c.args.projects.now c.loop-j.j 0) c.index.result.now 0 (omega arith)
    ∙ counts (get_or c.args.projects.now c.loop-j.j 0) (omega arith) in
    let pairs = count_pairs (project_in c.args.instance.now) c.args.lines.now c.args.projects.now (c.loop-j.j + 1)
    (get_or c.args.projects.now c.loop-j.j 0) c.requires.projects in
    record {
      size = size ∙ c.loop-j.invariant.size;
      counts = counts;
      least = least_step c.args.lines.now (λ x. x.row)
          (IsBadPair c.args.instance.now c.args.lines.now ProjectOver) c.loop-j.j c.index-lines-j.result c.loop-j.best _ _ _
          c.least_with-best.ensures (ap (λ x. x.row) c.line.view_is) c.loop-j-test.true (sym c.index-lines-j.is) (
            λ over. rw (← p) (omega (arith, ltb-true _ _ over)),
            λ bad. let more = rw (← p) at bad in
                lt-ltb _ _ (omega arith),
          ) c.loop-j.invariant.least;
    }

pub returns : goal.returns
returns c = least_all c.args.lines.now (λ x. x.row) (IsBadPair c.args.instance.now c.args.lines.now ProjectOver) c.loop-j.j c.loop-j.best
    (omega arith) c.loop-j.invariant.least
