-- What makes a world sound, in two parts: what is said of the rolls alone, and what is said of
-- lists, rankings and the result.
use Rattle.std.specs.Prelude.{◌≡◌, ◌≤◌, Bool, true, false, List, [], ◌∷◌, ◌++◌, map, filter, length, Option, None}
use Rattle.std.specs.Prelude.{IfSome}
use Rattle.std.specs.List.{AllByRecursion, list_any}
use Rattle.portal_rules.specs.declared.phase.Phase.{Phase}
use Rattle.portal_rules.specs.declared.phase.Round.{Round}
use Rattle.portal_rules.specs.declared.rows.LecturerRow.{LecturerRow}
use Rattle.portal_rules.specs.declared.rows.ProjectRow.{ProjectRow}
use Rattle.portal_rules.specs.declared.rows.StudentRow.{StudentRow}
use Rattle.portal_rules.specs.Words.{is_code, Key, has, Rise, AreDistinct}
use Rattle.spa_rows.specs.Limits.{most_lecturers, most_projects, most_students}
use Rattle.spa_model.specs.Spa.{IsStable}
use Rattle.portal_rules.specs.Good.{instance, matching_of, IsLecturer, IsProject, IsStudent, IsChoice, IsRanking}
use Rattle.portal_rules.specs.World.{World, Lecturer, Student, project_key, student_key, is_setup, is_published}
use Rattle.portal_rules.specs.World.{is_from_ranking, is_second, is_left, projects_in}
use Rattle.portal_rules.specs.inner.Room.{own_keys}
use Rattle.portal_list.specs.Rows.{AllEntries, entries_in}

abbrev pub codes_in : Key → List LecturerRow → List StudentRow → List Key
codes_in office lecturers students = office ∷ map (λ l. l.code) lecturers ++ map (λ s. s.code) students

abbrev pub lecturer_row_keys : List LecturerRow → List Key
lecturer_row_keys rows = map (λ r. r.key) rows

abbrev pub student_row_keys : List StudentRow → List Key
student_row_keys rows = map (λ r. r.key) rows

pub record KeysRise (lecturers : List LecturerRow) (projects : List ProjectRow) (students : List StudentRow) : Type 0 where
  pub lecturers_rise : Rise (lecturer_row_keys lecturers)
  pub projects_rise : Rise (map project_key projects)
  pub students_rise : Rise (student_row_keys students)

pub record AreFew (lecturers : List LecturerRow) (projects : List ProjectRow) (students : List StudentRow) : Type 0 where
  pub few_lecturers : length lecturers ≤ most_lecturers
  pub few_projects : length projects ≤ most_projects
  pub few_students : length students ≤ most_students

pub record RollsFit (office : Key) (lecturers : List LecturerRow) (projects : List ProjectRow) (students : List StudentRow) : Type 0 where
  pub rise : KeysRise lecturers projects students
  pub few : AreFew lecturers projects students
  pub lecturer_forms : AllByRecursion IsLecturer lecturers
  pub project_forms : AllByRecursion IsProject projects
  pub student_forms : AllByRecursion IsStudent students
  pub office_form : is_code office ≡ true
  pub lecturers_known : AllByRecursion (λ p. has (lecturer_row_keys lecturers) p.lecturer ≡ true) projects
  pub codes : AreDistinct (codes_in office lecturers students)

-- nothing of an earlier round is there
abbrev pub HasNothingEarlier : Student → Type 0
HasNothingEarlier s = (s.earlier_choice ≡ []) × (s.earlier_placement ≡ None)

-- who has a project of the first round has no list and no place of the second
abbrev pub IsOutIfPlaced : Student → Type 0
IsOutIfPlaced s = is_left s ≡ false → (s.choice ≡ []) × (s.placed ≡ None)

-- what a student may have in a phase of a round
pub record StudentFits (phase : Phase) (round : Round) (s : Student) : Type 0 where
  pub no_choice_yet : is_setup phase ≡ true → s.choice ≡ []
  pub no_result_yet : is_published phase ≡ false → s.placed ≡ None
  pub nothing_earlier : is_second round ≡ false → HasNothingEarlier s
  pub out_if_placed : IsOutIfPlaced s

-- what a lecturer may have
pub record LecturerFits (phase : Phase) (round : Round) (l : Lecturer) : Type 0 where
  pub no_ranking_yet : is_from_ranking phase ≡ false → l.ranking ≡ None
  pub no_earlier_ranking : is_second round ≡ false → l.earlier_ranking ≡ None

pub record EntriesFit (phase : Phase) (e : AllEntries) : Type 0 where
  pub no_second_setup : is_second e.round ≡ true → is_setup phase ≡ false
  pub students_fit : AllByRecursion (StudentFits phase e.round) e.students
  pub lecturers_fit : AllByRecursion (LecturerFits phase e.round) e.lecturers

-- each list is one of projects that take part in the round
abbrev pub HasChoices : AllEntries → Type 0
HasChoices e = AllByRecursion (λ s. IsChoice (map project_key (projects_in e.round e.lecturers e.projects e.students)) s.choice) e.students

-- the students whose list holds one of the projects
abbrev pub wanting : List Key → List Student → List Student
wanting projects students = filter (λ s. list_any (λ p. has s.choice p) projects) students

-- the keys of a lecturer's applicants
abbrev pub applicant_keys : List ProjectRow → List Student → Key → List Key
applicant_keys projects students lecturer = map student_key (wanting (own_keys projects lecturer) students)

-- the ranking, if there is one, is of the applicants; where it is asked for, it is there if there
-- are any
pub record HasRanking (asked : Bool) (applicants : List Key) (ranking : Option (List Key)) : Type 0 where
  pub whole : IfSome ranking (IsRanking applicants)
  pub there : asked ≡ true → ranking ≡ None → applicants ≡ []

pub record ListsFit (phase : Phase) (e : AllEntries) : Type 0 where
  pub entries_fit : EntriesFit phase e
  pub choices : HasChoices e
  pub rankings : AllByRecursion (λ l. HasRanking (is_published phase) (applicant_keys e.projects e.students l.row.key) l.ranking) e.lecturers

-- of a world: its rolls fit, its lists fit, and its result, once published, is a stable matching
abbrev pub RollsOf : World → Type 0
RollsOf w = RollsFit w.office (map (λ l. l.row) w.lecturers) w.projects (map (λ s. s.row) w.students)

abbrev pub ListsOf : World → Type 0
ListsOf w = ListsFit w.phase (entries_in w)

abbrev pub IsStableIfPublished : World → Type 0
IsStableIfPublished w = is_published w.phase ≡ true → IsStable (instance w) (matching_of w)
