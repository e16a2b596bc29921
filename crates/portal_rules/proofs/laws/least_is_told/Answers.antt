use Rattle.portal_rules.proofs.Base.{lecturer_roll, project_roll, student_roll}
use Rattle.portal_rules.specs.Faults.{wrong_choice}
use Rattle.portal_rules.proofs.ListFaults.{is_first, rank_first}
use Rattle.portal_rules.proofs.RowFaults.{row_first}
use Rattle.portal_rules.proofs.laws.least_is_told.Goals as goal

pub returns : goal.returns
returns c = record {
  choices = λ catalogue. is_first (wrong_choice catalogue);
  rankings = rank_first;
  lecturers = λ v rows fault told. row_first (lecturer_roll v) fault v.lecturers rows told;
  projects = λ v rows fault told. row_first (project_roll v) fault v.projects rows told;
  students = λ v rows fault told. row_first (student_roll v) fault v.students rows told;
}
