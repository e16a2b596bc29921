use Rattle.spa_student.proofs.Base.{get_or-set_same, rules}
use Rattle.spa_student.proofs.CutSteps.{rank_found, rank_at_below, fallen_project_marks}
use Rattle.spa_student.proofs.cuts.Progress.let_go_at.Goals as goal

pub leave-requires-clause-tallied : goal.leave-requires-clause-tallied
leave-requires-clause-tallied c = record {
  marks = search (rules, rank_found, rank_at_below, fallen_project_marks);
  counts = let counts = c.requires.tallied.counts in search rules;
}

pub leave-requires-clause-past : goal.leave-requires-clause-past
leave-requires-clause-past c = search (rules, rank_found, get_or-set_same)

pub returns : goal.returns
returns c = record {
  worst = search rules;
  leaves = search rules;
  project_cuts = search (rules, rank_found);
  lecturer_cuts = search rules;
  marks = let tallied = c.leave.ensures.tallied in search rules;
  counts = let tallied = c.leave.ensures.tallied in search rules;
}
