-- What the office sees, of the rolls and of what the tables hold.
use Rattle.std.specs.Prelude.{◌&&◌, if◌then◌else◌, Bool, is_none}
use Rattle.std.specs.List.{list_any}
use Rattle.portal_rules.specs.Calls.{OfficeSees}
use Rattle.portal_rules.specs.Words.{is_empty}
use Rattle.portal_tables.specs.Tables.{tree_of, student_tree}
use Rattle.portal_tables.specs.declared.sql.list_table.Lists.TheVariants.{Choices, Rankings}
use Rattle.portal_tables.specs.Rows.{IsWhole, of_key, row_key}
use Rattle.portal_tables.specs.inner.Owners.{has_list, choice_shown}
use Rattle.portal_tables.specs.inner.Placements.{pair_shown, placement_before, HasFirstPlace, HasPlacement}
use Rattle.portal_tables.specs.inner.Rolls.{lecturers_shown, projects_shown, students_shown}
use Rattle.portal_tables.specs.inner.Shown.{first_cell, shown_lecturer, shown_project, shown_student}
use Rattle.portal_views.specs.inner.Base.{List, [], map, filter, filter_map, Option, Some, None, AllByRecursion, Row}
use Rattle.portal_views.specs.inner.Base.{Trees, Database, IsLecturer, IsProject, IsStudent, Phase, Round, Listing}
use Rattle.portal_views.specs.inner.Base.{ProjectRow, Key, equals, has, is_from_ranking}
use Rattle.portal_views.specs.inner.Lines.{HasTables}

-- the tables are the portal's own and sound, and no student's list of the round has a gap
pub record HasWholeLists (round : Round) (db : Database) : Type 0 where
  pub tables : HasTables db
  pub whole : AllByRecursion (λ r. IsWhole (of_key (row_key r) (db.trees (tree_of (Choices round))))) (db.trees student_tree)

-- What the reading of the office's view asks of the rolls that are shown: each cell and each place
-- has its form, and no list has a gap.
pub record AreReadable (round : Round) (lecturers projects students : List Row) (db : Database) : Type 0 where
  pub lists : HasWholeLists round db
  pub lecturer_forms : AllByRecursion (λ c. IsLecturer (shown_lecturer c)) lecturers
  pub project_forms : AllByRecursion (λ c. IsProject (shown_project c)) projects
  pub student_forms : AllByRecursion (λ c. IsStudent (shown_student c)) students
  pub first : AllByRecursion HasFirstPlace students
  pub places : AllByRecursion (HasPlacement round db.trees) students

-- the same of the rolls in the tables
abbrev pub IsReadableByOffice : Round → Database → Type 0
IsReadableByOffice round db =
    AreReadable round (lecturers_shown db.trees) (projects_shown db.trees) (students_shown db.trees) db

-- some student's list holds the project
abbrev pub is_chosen_shown : Round → Trees → Key → Bool
is_chosen_shown round db k = list_any (λ c. has (choice_shown round db c) k) (students_shown db)

-- or one of these projects that is the lecturer's
abbrev pub is_wanted_shown : Round → Trees → List ProjectRow → Key → Bool
is_wanted_shown round db projects lecturer =
    list_any (λ p. equals p.lecturer lecturer && is_chosen_shown round db p.key) projects

-- the key of the lecturer whose row is shown, where there is an applicant and no ranking
abbrev pub waiting_key : Round → Trees → List ProjectRow → Row → Option Key
waiting_key round db projects c =
    if has_list (Rankings round) db c then None else (if is_wanted_shown round db projects (first_cell c) then Some (first_cell c) else None)

abbrev pub waiting_keys : Round → Trees → List ProjectRow → List Row → List Key
waiting_keys round db projects lecturers = filter_map (waiting_key round db projects) lecturers

-- the keys of the students whose rows are shown, who take part and have no list
abbrev pub unlisted : Round → Trees → List Row → List Key
unlisted round db students =
    map first_cell (filter (λ c. is_none (placement_before round c) && is_empty (choice_shown round db c)) students)

-- what the office sees, of shown rolls, with the catalogue
abbrev pub office_sees_with : Round → Trees → Phase → Key → List Listing → List Row → List Row → List Row → OfficeSees
office_sees_with round db phase code offers lecturers projects students =
    record {
      round = round;
      phase = phase;
      office_code = code;
      lecturers = map shown_lecturer lecturers;
      projects = map shown_project projects;
      students = map shown_student students;
      catalogue = offers;
      without_list = unlisted round db students;
      still_to_rank =
          if is_from_ranking phase then waiting_keys round db (map shown_project projects) lecturers else [];
      pairs = filter_map (pair_shown round (Some phase) db) students;
    }

-- of the rolls in the tables
abbrev pub office_shown : Round → Trees → Phase → Key → List Listing → OfficeSees
office_shown round db phase code offers =
    office_sees_with round db phase code offers (lecturers_shown db) (projects_shown db) (students_shown db)
