use Rattle.spa_student.proofs.Base.{◌≡◌, ◌<◌, ◌-◌, ◌+◌, length, get_or, set, refl, ◌∙◌, ap, arith, get_or_read, rules}
use Rattle.spa_student.proofs.CutSteps.{leaver_cursor, leaver_has_entry, some_at, some_with, left_marks, left_counts}
use Rattle.spa_student.proofs.cuts.Progress.leave.Goals as goal

pub prove-unreachable-requires : goal.prove-unreachable-requires
prove-unreachable-requires c = search (rules, leaver_cursor, get_or_read, leaver_has_entry)

pub lecturer_of-l-requires : goal.lecturer_of-l-requires
lecturer_of-l-requires c =
    let marks = c.requires.tallied.marks in
    marks.lawful.known c.args.w c.args.u (marks.assigned.acceptable c.args.w c.args.u c.requires.has)

pub overflow_sub-index_mut : goal.overflow_sub-index_mut
overflow_sub-index_mut c = search (rules, get_or_read, some_at)

pub overflow_sub-index_mut-2 : goal.overflow_sub-index_mut-2
overflow_sub-index_mut-2 c = search (rules, get_or_read, some_with)

pub returns-clause-tallied : goal.returns-clause-tallied
returns-clause-tallied c =
    let i = c.args.instance.now in
    let q = c.args.self.now in
    let w = c.args.w in
    let u = c.args.u in
    let marks = c.requires.tallied.marks in
    let counts = c.requires.tallied.counts in
    let in_range : w < length q.cursors.items = leaver_cursor i q marks w u c.requires.has in
    let cursor : c.index_mut-2.result.now ≡ get_or q.cursors.items w 0 =
    get_or_read q.cursors.items w c.index_mut-2.result.now in_range c.index_mut-2.ensures.value 0 in
    let known : u < length i.lecturers = marks.lawful.known w u (marks.assigned.acceptable w u c.requires.has) in
    let count : c.index_mut-3.result.now ≡ get_or q.project_counts.items u 0 =
    get_or_read q.project_counts.items u c.index_mut-3.result.now (omega (arith, counts.project_rows))
    c.index_mut-3.ensures.value 0 in
    let count_l : c.index_mut-4.result.now ≡ get_or q.lecturer_counts.items c.lecturer_of-l.result 0 =
    get_or_read q.lecturer_counts.items c.lecturer_of-l.result c.index_mut-4.result.now
    (omega (arith, counts.lecturer_rows, c.lecturer_of-l.ensures.in_range)) c.index_mut-4.ensures.value 0 in
    record {
      marks = left_marks i q _ marks w u c.requires.has
          (record { projects = refl; cursors = ap (λ n. set q.cursors.items w (n + 1)) cursor })
          (record { project_cuts = refl; lecturer_cuts = refl }) c.requires.past;
      counts = left_counts i q _ marks w u c.requires.has
          (record { projects = refl; cursors = ap (λ n. set q.cursors.items w (n + 1)) cursor })
          counts known (rw c.lecturer_of-l.ensures.gives at c.lecturer_of-l.ensures.in_range)
          (ap (λ n. set q.project_counts.items u (n - 1)) count)
          (ap (λ n. set q.lecturer_counts.items c.lecturer_of-l.result (n - 1)) count_l
          ∙ ap (λ l. set q.lecturer_counts.items l (get_or q.lecturer_counts.items l 0 - 1))
          c.lecturer_of-l.ensures.gives);
    }
