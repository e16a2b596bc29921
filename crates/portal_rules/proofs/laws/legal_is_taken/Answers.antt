use Rattle.portal_rules.proofs.Base.{lecturer_roll, project_roll, student_roll}
use Rattle.portal_rules.proofs.Taken as taken
use Rattle.portal_rules.proofs.laws.legal_is_taken.Goals as goal

pub returns : goal.returns
returns c = record {
  choices = taken.choice_legal;
  rankings = taken.ranking_legal;
  lecturers = λ v rows fresh. taken.rows_taken (lecturer_roll v) 1 v.lecturers rows fresh;
  projects = λ v rows fresh. taken.rows_taken (project_roll v) 1 v.projects rows fresh;
  students = λ v rows fresh. taken.rows_taken (student_roll v) 1 v.students rows fresh;
}
