-- The instance that a world stands for, the matching that its result is, and good worlds.
use Rattle.portal_rules.specs.Base.{Spa, IsStable, number_in, AllByRecursion, Ranking}
use Rattle.std.specs.Prelude.{ℕ, List, [], map, Option, unwrap_or, option_map, ◌≡◌, ◌+◌, ◌≤◌, true, false, ◌∷◌, ◌++◌}
use Rattle.std.specs.Prelude.{length, None, IfSome}
use Rattle.portal_rules.specs.Words.{Key, is_code, is_name, has, Rise, AreDistinct}
use Rattle.portal_rules.specs.World.{World, in_play, lecturer_key, project_key, student_key, Student, count_at}
use Rattle.portal_rules.specs.World.{count_with, given_to, given_with, first, is_left, is_second, applicants_of}
use Rattle.portal_rules.specs.World.{is_still_to_rank, is_setup, is_published, is_from_ranking, LecturerRow, ProjectRow}
use Rattle.portal_rules.specs.World.{StudentRow}
use Rattle.spa_rows.specs.Limits.{most_lecturers, most_projects, most_students, longest_choice, most_places}
use Rattle.spa_rows.specs.Lines.{is_key}

abbrev pub lecturer_keys : World → List Key
lecturer_keys w = map lecturer_key w.lecturers

abbrev pub project_keys : World → List Key
project_keys w = map project_key w.projects

abbrev pub student_keys : World → List Key
student_keys w = map student_key w.students

-- the instance of a world's rolls, lists and rankings; a missing ranking is empty
abbrev pub instance_of : World → Spa
instance_of w =
    record {
      student_keys = student_keys w;
      choices = map (λ s. map (number_in (project_keys w)) s.choice) w.students;
      project_keys = project_keys w;
      lecturers = map (λ p. number_in (lecturer_keys w) p.lecturer) w.projects;
      capacities = map (λ p. p.capacity) w.projects;
      lecturer_keys = lecturer_keys w;
      rankings = map (λ l. map (number_in (student_keys w)) (unwrap_or l.ranking [])) w.lecturers;
      limits = map (λ l. l.row.capacity) w.lecturers;
    }

-- the number of each student's project in the result
abbrev pub places_of : World → List (Option ℕ)
places_of w = map (λ s. option_map (number_in (project_keys w)) s.placed) w.students

-- the instance of the current round, and its result as a matching
abbrev pub instance : World → Spa
instance w = instance_of (in_play w)

abbrev pub matching_of : World → List (Option ℕ)
matching_of w = places_of (in_play w)

pub record IsLecturer (r : LecturerRow) : Type 0 where
  pub key : is_key r.key ≡ true
  pub name : is_name r.name ≡ true
  pub code : is_code r.code ≡ true
  pub low : 1 ≤ r.capacity
  pub high : r.capacity ≤ most_places

pub record IsProject (r : ProjectRow) : Type 0 where
  pub key : is_key r.key ≡ true
  pub lecturer : is_key r.lecturer ≡ true
  pub title : is_name r.title ≡ true
  pub low : 1 ≤ r.capacity
  pub high : r.capacity ≤ most_places

pub record IsStudent (r : StudentRow) : Type 0 where
  pub key : is_key r.key ≡ true
  pub name : is_name r.name ≡ true
  pub code : is_code r.code ≡ true

-- all codes that identify a caller
abbrev pub codes_of : World → List Key
codes_of w = w.office ∷ map (λ l. l.row.code) w.lecturers ++ map (λ s. s.row.code) w.students

-- known projects, not too many, and none twice
pub record IsChoice (projects : List Key) (choice : List Key) : Type 0 where
  pub few : length choice ≤ longest_choice
  pub known : AllByRecursion (λ p. has projects p ≡ true) choice
  pub once : AreDistinct choice

-- each applicant once, and nobody else
pub record IsRanking (applicants : List Key) (ranking : List Key) : Type 0 where
  pub all : AllByRecursion (λ s. has ranking s ≡ true) applicants
  pub only : AllByRecursion (λ s. has applicants s ≡ true) ranking
  pub once : AreDistinct ranking

-- all rules of the current round, except that the published result is stable
pub record Sound (w : World) : Type 0 where
  -- each roll has each key once, in rising order
  pub lecturers_rise : Rise (lecturer_keys w)
  pub projects_rise : Rise (project_keys w)
  pub students_rise : Rise (student_keys w)
  pub lecturer_forms : AllByRecursion (λ l. IsLecturer l.row) w.lecturers
  pub project_forms : AllByRecursion IsProject w.projects
  pub student_forms : AllByRecursion (λ s. IsStudent s.row) w.students
  pub office_form : is_code w.office ≡ true
  pub few_lecturers : length w.lecturers ≤ most_lecturers
  pub few_projects : length w.projects ≤ most_projects
  pub few_students : length w.students ≤ most_students
  -- a code identifies one caller
  pub codes : AreDistinct (codes_of w)
  pub lecturers_known : AllByRecursion (λ p. has (lecturer_keys w) p.lecturer ≡ true) w.projects
  pub choices : AllByRecursion (λ s. IsChoice (project_keys (in_play w)) s.choice) w.students
  pub no_choices_yet : is_setup w.phase ≡ true → AllByRecursion (λ s. s.choice ≡ []) w.students
  pub no_rankings_yet : is_from_ranking w.phase ≡ false → AllByRecursion (λ l. l.ranking ≡ None) w.lecturers
  pub rankings : AllByRecursion (λ l.
      IfSome l.ranking (IsRanking (map student_key (applicants_of w l.row.key)))) w.lecturers
  pub no_result_yet : is_published w.phase ≡ false → AllByRecursion (λ s. s.placed ≡ None) w.students
  pub all_ranked : is_published w.phase ≡ true → AllByRecursion (λ l. is_still_to_rank w l ≡ false) w.lecturers
  -- the first round has no earlier lists, rankings or placements
  pub no_earlier_lists : is_second w.round ≡ false
      → AllByRecursion (λ s. (s.earlier_choice ≡ []) × (s.earlier_placement ≡ None)) w.students
  pub no_earlier_rankings : is_second w.round ≡ false → AllByRecursion (λ l. l.earlier_ranking ≡ None) w.lecturers
  -- the second round starts in choosing and is for students without a project of the first
  pub no_second_setup : is_second w.round ≡ true → is_setup w.phase ≡ false
  pub only_left : AllByRecursion (λ s. is_left s ≡ false → (s.choice ≡ []) × (s.placed ≡ None)) w.students

-- a published result is a stable matching
abbrev pub PublishesStable : World → Type 0
PublishesStable w = is_published w.phase ≡ true → IsStable (instance w) (matching_of w)

-- a world that obeys the rules of its current round
pub record IsRound (w : World) : Type 0 where
  pub sound : Sound w
  pub stable : PublishesStable w

-- a good world: the rules hold for it and, in the second round, for the first as published
pub record Good (w : World) : Type 0 where
  pub sound : Sound w
  pub stable : PublishesStable w
  pub before : is_second w.round ≡ true → IsRound (first w)

-- the phase is ranking, and no ranking is missing
pub record CanPublish (w : World) : Type 0 where
  pub phase : w.phase ≡ Ranking
  pub all_ranked : AllByRecursion (λ l. is_still_to_rank w l ≡ false) w.lecturers

-- the number of students that the result of the current round places there
abbrev pub placed_to : List Student → Key → ℕ
placed_to = count_at (λ s. s.placed)

abbrev pub placed_with : List ProjectRow → List Student → Key → ℕ
placed_with = count_with (λ s. s.placed)

-- the results of both rounds together keep within the capacities of the rolls
pub record KeepsCapacities (w : World) : Type 0 where
  pub projects : AllByRecursion (λ p. given_to w.students p.key + placed_to w.students p.key ≤ p.capacity) w.projects
  pub lecturers : AllByRecursion (λ l.
      given_with w.projects w.students l.row.key + placed_with w.projects w.students l.row.key ≤ l.row.capacity)
      w.lecturers
