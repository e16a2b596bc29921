use Rattle.spa_student.proofs.Base.{◌≡◌, ◌-◌, ◌<◌, inl, inr, length, get_or, ◌∙◌, ap, arith, rules, get_or_read}
use Rattle.spa_student.proofs.Base.{cases_lt, ranking_of, lecturer_of, IsWith, iff_false}
use Rattle.spa_student.proofs.CutSteps.{ranked_in_range, found_worst_with, found_with}
use Rattle.spa_student.proofs.cuts.Progress.worst_with.Goals as goal

pub is_with-requires-clause-in_range : goal.is_with-requires-clause-in_range
is_with-requires-clause-in_range c = search (rules, get_or_read, ranked_in_range)

pub returns-then-is_with-clause-worst : goal.returns-then-is_with-clause-worst
returns-then-is_with-clause-worst c =
    let i = c.args.instance.now in
    let own = c.lecturer_of-l.ensures.gives in
    let list : c.ranking-ranking.result.now ≡ ranking_of i (lecturer_of i c.args.p) = c.ranking-ranking.ensures ∙ ap (ranking_of i) own in
    let l_in : c.lecturer_of-l.result < length c.args.self.now.lecturer_cuts.items =
    omega (arith, c.lecturer_of-l.ensures.in_range, c.requires.marks.lecturer_rows) in
    let cut : c.index-k.result.now ≡ get_or c.args.self.now.lecturer_cuts.items (lecturer_of i c.args.p) 0 =
    rw own at (get_or_read c.args.self.now.lecturer_cuts.items c.lecturer_of-l.result c.index-k.result.now l_in c.index-k.ensures 0) in
    let below : c.loop-k.k - 1 < length (ranking_of i (lecturer_of i c.args.p)) =
    omega (arith, c.requires.marks.lecturer_cuts (lecturer_of i c.args.p)) in
    let at : IsWith i c.args.self.now.projects.items (lecturer_of i c.args.p) (get_or c.ranking-ranking.result.now (c.loop-k.k - 1) 0) =
    search rules in
    found_worst_with i c.requires.marks.lawful c.args.self.now c.requires.marks c.requires.uncut (lecturer_of i c.args.p)
    (c.loop-k.k - 1) below (rw list at at) (λ j h. c.loop-k.invariant j (omega arith))

pub loop-k-preserved : goal.loop-k-preserved
loop-k-preserved c j h below is_there = elim (cases_lt (c.loop-k.k - 1) j) [
  | inl after ↦ c.loop-k.invariant j (omega arith) below is_there
  | inr here ↦ grind (
    arith,
    iff_false,
    c.loop-k.k,
    c.is_with.ensures,
    c.if-is_with.false,
    c.ranking-ranking.ensures,
    c.lecturer_of-l.ensures.gives,
  )
]

pub unreachable-requires : goal.unreachable-requires
unreachable-requires c = found_with c.args.instance.now c.requires.marks.lawful c.args.self.now c.requires.marks c.requires.uncut
    (lecturer_of c.args.instance.now c.args.p) c.requires.some.0 c.requires.some.1 (λ j h. c.loop-k.invariant j (omega arith) h)
