use Rattle.spa_student.proofs.Base.{◌≡◌, ◌<◌, length, get_or, arith, get_or-set_same, get_or_read, ranking_of, rank_of}
use Rattle.spa_student.proofs.Base.{IsWorstWith, rules}
use Rattle.std.proofs.lemmas.Option.{same_Some}
use Rattle.spa_student.proofs.CutSteps.{rank_found, rank_with_below, fallen_lecturer_marks}
use Rattle.spa_student.proofs.Machine.{student_in_range}
use Rattle.spa_student.proofs.cuts.Progress.let_go_by_lecturer.Goals as goal

pub leave-requires-clause-tallied : goal.leave-requires-clause-tallied
leave-requires-clause-tallied c =
    let i = c.args.instance.now in
    let own = c.lecturer_of-l.result in
    let in_range : c.worst_with-rank.result < length (ranking_of i own) =
    rw c.lecturer_of-l.ensures.gives c.worst_with-rank.ensures.in_range in
    let worst : IsWorstWith i c.args.self.now.projects.items own (get_or (ranking_of i own) c.worst_with-rank.result 0) =
    rw c.lecturer_of-l.ensures.gives c.worst_with-rank.ensures.worst in
    let marks = c.requires.tallied.marks in
    let row : own < length c.args.self.now.lecturer_cuts.items =
    omega (arith, c.lecturer_of-l.ensures.in_range, marks.lecturer_rows) in
    let found : rank_of i own (get_or (ranking_of i own) c.worst_with-rank.result 0) ≡ c.worst_with-rank.result =
    rank_found i marks.lawful own c.worst_with-rank.result in_range in
    record {
      marks = search (rules, rank_with_below, fallen_lecturer_marks);
      counts = let counts = c.requires.tallied.counts in search rules;
    }

pub leave-requires-clause-past : goal.leave-requires-clause-past
leave-requires-clause-past c = search (rules, rank_found, student_in_range, get_or_read, same_Some, get_or-set_same)

pub returns : goal.returns
returns c = record {
  worst = search rules;
  leaves = search rules;
  project_cuts = search rules;
  lecturer_cuts = search (rules, rank_found);
  marks = let tallied = c.leave.ensures.tallied in search rules;
  counts = let tallied = c.leave.ensures.tallied in search rules;
}
