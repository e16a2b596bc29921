-- The rows of the rolls and lists, of the rolls that queries show and the lists in the tables.
use Rattle.std.specs.Prelude.{◌≡◌}
use Rattle.portal_views.specs.inner.Base.{List, None, map, AllByRecursion, filter_map, Row, Trees, Round, IsLecturer}
use Rattle.portal_views.specs.inner.Base.{IsProject, IsStudent, Key, LecturerRow, ProjectRow, StudentRow}
use Rattle.portal_tables.specs.inner.Owners.{AreOwned, entry, with_list, IsRead, IsFine}
use Rattle.portal_tables.specs.declared.sql.list_table.Lists.TheVariants.{Choices, Rankings}
use Rattle.portal_tables.specs.inner.Placements.{pair_shown, HasPlacement}
use Rattle.portal_tables.specs.inner.Rolls.{RollsRise, lecturers_shown, projects_shown, students_shown}
use Rattle.portal_tables.specs.inner.Shown.{shown_lecturer, shown_project, shown_student}
use Rattle.portal_views.specs.declared.contents.Contents.{Contents}

pub record AllRows : Type 0 where
  pub lecturers : List LecturerRow
  pub projects : List ProjectRow
  pub students : List StudentRow
  -- each student's list, by student
  pub choices : List (Key × List Key)
  -- the rankings that are there, by lecturer
  pub rankings : List (Key × List Key)
  -- the result, by student
  pub pairs : List (Key × Key)

-- those that were read
abbrev pub rows_held : Contents → AllRows
rows_held c =
    record {
      lecturers = c.lecturers.items;
      projects = c.projects.items;
      students = c.students.items;
      choices = map with_list c.choices.items;
      rankings = map with_list c.rankings.items;
      pairs = c.pairs.items;
    }

-- those of shown rows, with the lists and places of a round in the tables
abbrev pub rows_from : Round → Trees → List Row → List Row → List Row → AllRows
rows_from round db lecturers projects students =
    record {
      lecturers = map shown_lecturer lecturers;
      projects = map shown_project projects;
      students = map shown_student students;
      choices = filter_map (entry (Choices round) db) students;
      rankings = filter_map (entry (Rankings round) db) lecturers;
      pairs = filter_map (pair_shown round None db) students;
    }

-- what was found while they were read
pub record AreRead (round : Round) (db : Trees) (lecturers students : List Row) : Type 0 where
  pub choices : AllByRecursion (IsRead (Choices round) db) students
  pub rankings : AllByRecursion (IsRead (Rankings round) db) lecturers

-- these are those of shown rows, with what was found while they were read
abbrev pub HasReadOf : Round → AllRows → Trees → List Row → List Row → List Row → Type 0
HasReadOf round rows db lecturers projects students =
    (rows ≡ rows_from round db lecturers projects students) × AreRead round db lecturers students

abbrev pub HasRead : Round → AllRows → Trees → Type 0
HasRead round rows db = HasReadOf round rows db (lecturers_shown db) (projects_shown db) (students_shown db)

-- what the decoding of shown rows asks
pub record AreFine (round : Round) (db : Trees) (lecturers projects students : List Row) : Type 0 where
  pub lecturer_forms : AllByRecursion (λ c. IsLecturer (shown_lecturer c)) lecturers
  pub project_forms : AllByRecursion (λ c. IsProject (shown_project c)) projects
  pub student_forms : AllByRecursion (λ c. IsStudent (shown_student c)) students
  pub places : AllByRecursion (HasPlacement round db) students
  pub choices : AllByRecursion (IsFine (Choices round) db) students
  pub rankings : AllByRecursion (IsFine (Rankings round) db) lecturers

-- and that the lists are theirs
pub record HasFineRows (round : Round) (db : Trees) (lecturers projects students : List Row) : Type 0 where
  pub choices : AreOwned (Choices round) db students
  pub rankings : AreOwned (Rankings round) db lecturers
  pub fine : AreFine round db lecturers projects students

-- what the reading of the tables asks
pub record HasFineRolls (round : Round) (db : Trees) : Type 0 where
  pub rise : RollsRise db
  pub fine : AreFine round db (lecturers_shown db) (projects_shown db) (students_shown db)
