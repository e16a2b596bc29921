-- How lines are kept by number, and what numbers show of applicants.
use Rattle.std.specs.Prelude.{◌≡◌, ◌<◌, ℕ, List, [], All, Any, map, length, Option, None, Vec, slice_index_or}
use Rattle.std.specs.Prelude.{IsSortedByKey}
use Rattle.std.specs.Ordering.{nat_cmp}
use Rattle.std.specs.Cmp.Lexicographic.{slice_cmp}
use Rattle.std.specs.Global.{Global}
use Rattle.std.specs.List.{AllZip}
use Rattle.spa_rows.specs.Lines
use Rattle.spa_rows.specs.Lines.{Text, Rows}
use Rattle.spa_rows.specs.Faults.{BadAt, IsKeyOf}
use Rattle.spa_model.specs.declared.instance.Student.{Student}
use Rattle.spa_model.specs.declared.instance.Project.{Project}
use Rattle.spa_model.specs.declared.instance.Lecturer.{Lecturer}
use Rattle.spa_model.specs.Pairs.{HasKey}
use Rattle.spa_model.specs.inner.Inside.{AreRanks}

-- the rows of these lines
abbrev pub rows_of : List Lines.LecturerWithList → List Lines.ProjectWithLecturer → List Lines.StudentWithList → Rows
rows_of lecturers projects students = record { lecturers = lecturers; projects = projects; students = students }

-- the lines of each kind are sorted by key
pub record AreSorted (rows : Rows) : Type 0 where
  pub lecturers : IsSortedByKey (λ x. x.key) (slice_cmp nat_cmp) rows.lecturers
  pub projects : IsSortedByKey (λ x. x.key) (slice_cmp nat_cmp) rows.projects
  pub students : IsSortedByKey (λ x. x.key) (slice_cmp nat_cmp) rows.students

-- the keys of lines in their order
abbrev pub keys_of_students : List Lines.StudentWithList → List Text
keys_of_students lines = map (λ x. x.key) lines

abbrev pub keys_of_projects : List Lines.ProjectWithLecturer → List Text
keys_of_projects lines = map (λ x. x.key) lines

abbrev pub keys_of_lecturers : List Lines.LecturerWithList → List Text
keys_of_lecturers lines = map (λ x. x.key) lines

-- each text of a list is the key of one of these lines
abbrev pub AreKeysOf : {X : Type 0} → List X → (X → Text) → List Text → Type 0
AreKeysOf lines key list = All (IsKeyOf lines key) list

-- each text of a list is the key of the number in its place
abbrev pub AreNumbers : List Text → List Text → List ℕ → Type 0
AreNumbers keys texts numbers = AllZip (λ text n. HasKey keys n text) texts numbers

-- a line, with its texts as numbers
pub record IsStudentOf (keys : List Text) (line : Lines.StudentWithList) (student : Student) : Type 0 where
  pub key : student.key ≡ line.key
  pub choices : AreNumbers keys line.list student.choices.items

pub record IsProjectOf (keys : List Text) (line : Lines.ProjectWithLecturer) (project : Project) : Type 0 where
  pub key : project.key ≡ line.key
  pub capacity : project.capacity ≡ line.capacity
  pub lecturer : HasKey keys project.lecturer line.lecturer

pub record IsLecturerOf (keys : List Text) (line : Lines.LecturerWithList) (lecturer : Lecturer) : Type 0 where
  pub key : lecturer.key ≡ line.key
  pub capacity : lecturer.capacity ≡ line.capacity
  pub ranking : AreNumbers keys line.list lecturer.ranking.items
  pub ranks : AreRanks (length keys) lecturer.ranking.items lecturer.ranks.items

-- the lecturer of a project in these rows
abbrev pub lecturer_of_row : List Project → ℕ → ℕ
lecturer_of_row projects p = slice_index_or (map (λ x. x.lecturer) projects) p 0

-- the choices of a student in these rows
abbrev pub choices_at : List Student → ℕ → List ℕ
choices_at students s = slice_index_or (map (λ x. x.choices.items) students) s []

-- each choice is one of n projects
abbrev pub HaveChoicesBelow : ℕ → List Student → Type 0
HaveChoicesBelow n students = All (λ s. All (λ p. p < n) s.choices.items) students

-- one of the choices is a project of the lecturer
abbrev pub Finds : List Project → List ℕ → ℕ → Type 0
Finds projects choices l = Any (λ p. lecturer_of_row projects p ≡ l) choices

-- the text is the key of a student with such a choice
abbrev pub IsApplicantOf : List Lines.StudentWithList → List Student → List Project → ℕ → Text → Type 0
IsApplicantOf lines students projects l text =
    (s : ℕ) × HasKey (keys_of_students lines) s text × Finds projects (choices_at students s) l

-- the number is that of a student with such a choice
abbrev pub IsApplicantNumber : List Student → List Project → ℕ → ℕ → Type 0
IsApplicantNumber students projects l n = (n < length students) × Finds projects (choices_at students n) l

-- the list of numbers at a place
abbrev pub numbers_at : List (Vec ℕ Global) → ℕ → List ℕ
numbers_at lists k = slice_index_or (map (λ own. own.items) lists) k []

-- the row of a lecturer's line
abbrev pub row_at : List Lines.LecturerWithList → ℕ → ℕ
row_at lines l = slice_index_or (map (λ x. x.row) lines) l 0

-- the place of a student with a lecturer, from the table
abbrev pub rank_at : List Lecturer → ℕ → ℕ → Option ℕ
rank_at lecturers l s = slice_index_or (slice_index_or (map (λ x. x.ranks.items) lecturers) l []) s None

-- one of the choices of s is a project of a lecturer, in the row r, who has no place for s
abbrev pub Misses : List Lines.LecturerWithList → List Lecturer → List Project → List ℕ → ℕ → ℕ → Type 0
Misses lines lecturers projects choices s r =
    BadAt choices (λ p. row_at lines (lecturer_of_row projects p)) (λ _ p. rank_at lecturers (lecturer_of_row projects p) s ≡ None) r

-- such a choice of one of the first n students
abbrev pub MissesBelow : List Lines.LecturerWithList → List Lecturer → List Project → List Student → ℕ → ℕ → Type 0
MissesBelow lines lecturers projects students n r =
    (s : ℕ) × (s < n) × Misses lines lecturers projects (choices_at students s) s r
