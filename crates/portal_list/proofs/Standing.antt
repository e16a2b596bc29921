-- The only lawful instance that stands for rows whose keys rise.
use Rattle.portal_list.proofs.Base.{◌≡◌, ℕ, ◌<◌, List, [], map, length, get_or, sym, ◌∙◌, ap, subst, arith, length-map}
use Rattle.portal_list.proofs.Base.{Rows, at_place, map_at, Spa, IsLawful, StandsFor, number_in, Contains, ext_get_or}
use Rattle.portal_list.proofs.Base.{Text, ProjectWithLecturer, choices_of, lecturer_of, capacity_of, ranking_of}
use Rattle.portal_list.proofs.Base.{limit_of, keys_at}
use Rattle.portal_list.proofs.Base.{own_number, numbers_back, choices_below, ranking_below, keys_one, student_there}
use Rattle.portal_list.proofs.Base.{project_there, lecturer_there, student_says, project_says, lecturer_says}
use Rattle.spa_rows.specs.Lines.{LecturerWithList, StudentWithList}
use Rattle.spa_model.specs.Spa.{TextsRise}
use Rattle.spa_model.specs.inner.Numbers.{keys_of_students, keys_of_projects, keys_of_lecturers}
use Rattle.spa_model.proofs.Keys.{key_number}

-- the instance of these rows, whose keys rise: a text becomes its place
abbrev pub spa_of_rows : Rows → Spa
spa_of_rows rows =
    record {
      student_keys = keys_of_students rows.students;
      choices = map (λ (x : StudentWithList). map (number_in (keys_of_projects rows.projects)) x.list) rows.students;
      project_keys = keys_of_projects rows.projects;
      lecturers = map (λ (x : ProjectWithLecturer). number_in (keys_of_lecturers rows.lecturers) x.lecturer) rows.projects;
      capacities = map (λ (x : ProjectWithLecturer). x.capacity) rows.projects;
      lecturer_keys = keys_of_lecturers rows.lecturers;
      rankings = map (λ (x : LecturerWithList). map (number_in (keys_of_students rows.students)) x.list) rows.lecturers;
      limits = map (λ (x : LecturerWithList). x.capacity) rows.lecturers;
    }

-- keys that rise, as many as the lines, among which each line's key stands, are those of the lines
keys_are : {X : Type 0} (key : X → Text) (lines : List X) (keys : List Text) → TextsRise keys
    → TextsRise (map key lines)
    → length keys ≡ length lines → ((k : ℕ) (x : X) → k < length lines → get_or lines k x ≡ x → Contains keys (key x))
    → keys ≡ map key lines
keys_are key lines keys up rise long there = keys_one keys (map key lines) up rise (long ∙ sym (length-map lines key)) (λ text (k, h, at).
    let low : k < length lines = omega (arith, length-map lines key) in
    let x = at_place lines k low in
    subst (Contains keys) (sym (map_at key lines k x.0 text low x.1) ∙ at) (there k x.0 low x.1))

-- a column that has at each place what f makes of the line there
column_is : {X Y : Type 0} (f : X → Y) (d : Y) (lines : List X) (ys : List Y) → length ys ≡ length lines
    → ((k : ℕ) (x : X) → k < length lines → get_or lines k x ≡ x → get_or ys k d ≡ f x) → ys ≡ map f lines
column_is f d lines ys long at = ext_get_or d ys (map f lines) (long ∙ sym (length-map lines f)) (λ k h.
    let low : k < length lines = omega (arith, long) in
    let x = at_place lines k low in
    at k x.0 low x.1 ∙ sym (map_at f lines k x.0 d low x.1))

module _ (rows : Rows) (i : Spa) (lawful : IsLawful i) (for : StandsFor rows i)
    (students_rise : TextsRise (keys_of_students rows.students)) (projects_rise : TextsRise (keys_of_projects rows.projects))
    (lecturers_rise : TextsRise (keys_of_lecturers rows.lecturers)) where
  same_students : i.student_keys ≡ keys_of_students rows.students
  same_students = keys_are (λ x. x.key) rows.students i.student_keys lawful.student_keys_rise students_rise for.student_count
      (student_there rows i lawful for)

  same_projects : i.project_keys ≡ keys_of_projects rows.projects
  same_projects = keys_are (λ x. x.key) rows.projects i.project_keys lawful.project_keys_rise projects_rise for.project_count
      (project_there rows i lawful for)

  same_lecturers : i.lecturer_keys ≡ keys_of_lecturers rows.lecturers
  same_lecturers = keys_are (λ x. x.key) rows.lecturers i.lecturer_keys lawful.lecturer_keys_rise lecturers_rise for.lecturer_count
      (lecturer_there rows i lawful for)

  -- a line stands at its place
  project_at : (k : ℕ) (x : ProjectWithLecturer) → k < length rows.projects → get_or rows.projects k x ≡ x
      → (capacity_of i k ≡ x.capacity) × (get_or i.lecturer_keys (lecturer_of i k) [] ≡ x.lecturer)
  project_at k x low at = project_says rows i lawful for k x k low at (rw same_projects (key_number (λ y. y.key) rows.projects k x low at))

  lecturer_at : (k : ℕ) (x : LecturerWithList) → k < length rows.lecturers → get_or rows.lecturers k x ≡ x
      → (limit_of i k ≡ x.capacity) × (keys_at i.student_keys (ranking_of i k) ≡ x.list)
  lecturer_at k x low at = lecturer_says rows i lawful for k x k low at
      (rw same_lecturers (key_number (λ y. y.key) rows.lecturers k x low at))

  same_choices : i.choices ≡ map (λ (x : StudentWithList). map (number_in i.project_keys) x.list) rows.students
  same_choices = column_is (λ (x : StudentWithList). map (number_in i.project_keys) x.list) [] rows.students i.choices
      (sym lawful.student_rows ∙ for.student_count) (λ k x low at.
      sym (numbers_back i.project_keys (choices_of i k) lawful.project_keys_rise (choices_below i lawful k))
      ∙ ap (map (number_in i.project_keys)) (student_says rows i lawful for k x k low at
      (rw same_students (key_number (λ y. y.key) rows.students k x low at))))

  same_offers : i.lecturers ≡ map (λ (x : ProjectWithLecturer). number_in i.lecturer_keys x.lecturer) rows.projects
  same_offers = column_is (λ (x : ProjectWithLecturer). number_in i.lecturer_keys x.lecturer) 0 rows.projects i.lecturers
      (sym lawful.project_key_rows ∙ for.project_count) (λ k x low at.
      sym (own_number i.lecturer_keys (lecturer_of i k) lawful.lecturer_keys_rise
      (omega (arith, lawful.offered k (omega (arith, lawful.project_key_rows, for.project_count)), lawful.lecturer_key_rows)))
      ∙ ap (number_in i.lecturer_keys) (project_at k x low at).1)

  same_capacities : i.capacities ≡ map (λ (x : ProjectWithLecturer). x.capacity) rows.projects
  same_capacities = column_is (λ (x : ProjectWithLecturer). x.capacity) 0 rows.projects i.capacities
      (lawful.project_rows ∙ sym lawful.project_key_rows ∙ for.project_count) (λ k x low at. (project_at k x low at).0)

  same_rankings : i.rankings ≡ map (λ (x : LecturerWithList). map (number_in i.student_keys) x.list) rows.lecturers
  same_rankings = column_is (λ (x : LecturerWithList). map (number_in i.student_keys) x.list) [] rows.lecturers i.rankings
      (sym lawful.lecturer_key_rows ∙ for.lecturer_count) (λ k x low at.
      sym (numbers_back i.student_keys (ranking_of i k) lawful.student_keys_rise (ranking_below i lawful k))
      ∙ ap (map (number_in i.student_keys)) (lecturer_at k x low at).1)

  same_limits : i.limits ≡ map (λ (x : LecturerWithList). x.capacity) rows.lecturers
  same_limits = column_is (λ (x : LecturerWithList). x.capacity) 0 rows.lecturers i.limits
      (lawful.lecturer_rows ∙ sym lawful.lecturer_key_rows ∙ for.lecturer_count) (λ k x low at. (lecturer_at k x low at).0)

  pub only_instance : i ≡ spa_of_rows rows
  only_instance = λ j. record {
    student_keys = same_students j;
    choices = (same_choices ∙ ap (λ keys. map (λ (x : StudentWithList). map (number_in keys) x.list) rows.students) same_projects) j;
    project_keys = same_projects j;
    lecturers = (same_offers ∙ ap (λ keys. map (λ (x : ProjectWithLecturer). number_in keys x.lecturer) rows.projects) same_lecturers) j;
    capacities = same_capacities j;
    lecturer_keys = same_lecturers j;
    rankings = (same_rankings ∙ ap (λ keys. map (λ (x : LecturerWithList). map (number_in keys) x.list) rows.lecturers) same_students) j;
    limits = same_limits j;
  }
