-- What is said of sorted rows holds of the rows.
use Rattle.spa_model.proofs.Base.{ℕ, ◌∙◌, arith, Rows, HasNoneBefore, IsRefusal, KeyTwice, NoSuchLecturer, Memory}
use Rattle.spa_model.proofs.Base.{SameLines, same_lines_sym, none_before_carry, Spa, IsInstanceOf, StandsFor}
use Rattle.spa_model.proofs.Base.{StandsStudent, StandsProject, StandsLecturer, All-permutation, IsPermutation-sym}
use Rattle.spa_model.proofs.Base.{length_permutation, first_fault_carry}
use Rattle.spa_rows.specs.declared.faults.InstanceFault.{InstanceFault}

-- the sorted rows are refused as the rows are
pub refusal_of_rows : (rows sorted : Rows) → SameLines rows sorted → HasNoneBefore rows NoSuchLecturer
    → (fault : InstanceFault) (r : ℕ) → IsRefusal sorted fault r → IsRefusal rows fault r
refusal_of_rows rows sorted same none KeyTwice r first =
    absurd (none_before_carry rows sorted same NoSuchLecturer none KeyTwice (omega arith) r first.here)
refusal_of_rows rows sorted same none Memory r first = first
refusal_of_rows rows sorted same none fault r first =
    first_fault_carry sorted rows (same_lines_sym rows sorted same) fault (λ e. cc) r first

-- an instance stands for the rows as for the sorted ones
stands_for_rows : (rows sorted : Rows) → SameLines rows sorted → (i : Spa) → StandsFor sorted i → StandsFor rows i
stands_for_rows rows sorted same i for = record {
  students = All-permutation (StandsStudent i) sorted.students rows.students
      (IsPermutation-sym rows.students sorted.students same.students) for.students;
  student_count = for.student_count ∙ length_permutation rows.students sorted.students same.students;
  projects = All-permutation (StandsProject i) sorted.projects rows.projects
      (IsPermutation-sym rows.projects sorted.projects same.projects) for.projects;
  project_count = for.project_count ∙ length_permutation rows.projects sorted.projects same.projects;
  lecturers = All-permutation (StandsLecturer i) sorted.lecturers rows.lecturers
      (IsPermutation-sym rows.lecturers sorted.lecturers same.lecturers) for.lecturers;
  lecturer_count = for.lecturer_count ∙ length_permutation rows.lecturers sorted.lecturers same.lecturers;
}

-- the instance of the sorted rows is that of the rows
pub instance_of_rows : (rows sorted : Rows) → SameLines rows sorted
    → (i : Spa) → IsInstanceOf sorted i → IsInstanceOf rows i
instance_of_rows rows sorted same i is = record {
  stands = stands_for_rows rows sorted same i is.stands;
  lawful = is.lawful;
  faultless = none_before_carry sorted rows (same_lines_sym rows sorted same) Memory is.faultless;
}
