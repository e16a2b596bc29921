use Rattle.spa_student.proofs.Base.{rules}
use Rattle.spa_student.proofs.CutSteps.{entry_acceptable}
use Rattle.spa_student.proofs.cuts.Progress.next.Goals as goal

pub is_past_cut-requires-clause-acceptable : goal.is_past_cut-requires-clause-acceptable
is_past_cut-requires-clause-acceptable c = search (rules, entry_acceptable)
