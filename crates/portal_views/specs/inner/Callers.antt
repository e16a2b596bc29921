-- What a lecturer or a student sees, of the own row and of what the tables hold.
use Rattle.std.specs.Prelude.{◌≡◌, ◌≤◌, true, if◌then◌else◌}
use Rattle.spa_rows.specs.Limits.{most_places}
use Rattle.spa_rows.specs.Lines.{is_key}
use Rattle.portal_tables.specs.Tables.{tree_of}
use Rattle.portal_tables.specs.declared.sql.list_table.Lists.TheVariants.{Choices, Rankings}
use Rattle.portal_tables.specs.Rows.{of_key, IsWhole}
use Rattle.portal_views.specs.inner.Base.{AllByRecursion, Vec, List, [], map, filter, Option, Global, Row, column}
use Rattle.portal_views.specs.inner.Base.{bytes, Trees, Database, number_in, Phase, Round, First, Second, Listing}
use Rattle.portal_views.specs.inner.Base.{Person, StudentSees, LecturerSees, Key, equals, is_at, is_from_ranking}
use Rattle.portal_views.specs.inner.Base.{is_published, put_all}
use Rattle.portal_views.specs.declared.applicants.ProjectStudents.{ProjectStudents}
use Rattle.portal_views.specs.declared.lines.ApplicantLine.{ApplicantLine}
use Rattle.portal_views.specs.inner.Lines.{HasTables, HasStudents, IsNamed, applicant_lines}
use Rattle.portal_tables.specs.inner.Owners.{IsFine, choice_shown, ranking_shown}
use Rattle.portal_tables.specs.inner.Placements.{result_shown, HasFirstPlace, HasPlacement}
use Rattle.portal_tables.specs.inner.Rolls.{projects_shown}
use Rattle.portal_tables.specs.inner.Shown.{first_cell}

abbrev pub person_key : Person → Key
person_key p = p.key

-- a project with persons
abbrev pub with_persons : Key × Vec Person Global → Key × List Person
with_persons e = (e.0, e.1.items)

-- the keys of a lecturer's projects
abbrev pub own_keys_shown : Trees → Key → List Key
own_keys_shown db lecturer = map first_cell (filter (λ c. equals (bytes (column c 1)) lecturer) (projects_shown db))

-- the lines of the project's applicants in a round, once the phase shows them
abbrev pub lines_shown : Round → Trees → Phase → Key → List ApplicantLine
lines_shown round db phase k = if is_from_ranking phase then applicant_lines round db k else []

-- of these lines the persons who are placed at the project
abbrev pub persons_at : Key → List ApplicantLine → List Person
persons_at k lines = map (λ l. l.person) (filter (λ l. is_at k l.placed) lines)

-- those whom a published result places there
abbrev pub placed_among : Phase → Key → List ApplicantLine → List Person
placed_among phase k lines = if is_published phase then persons_at k lines else []

-- the persons whom the round before placed at the project
abbrev pub persons_before : Round → Trees → Key → List Person
persons_before First db k = []
persons_before Second db k = persons_at k (applicant_lines First db k)

-- the persons whom the results that are shown place at the project, of the lines of its applicants,
-- by key
abbrev pub placed_at_shown : Round → Trees → Phase → Key → List ApplicantLine → List Person
placed_at_shown round db phase k lines = put_all person_key (placed_among phase k lines) (persons_before round db k)

-- applicants and placed students of the projects with these keys
abbrev pub applicants_of_projects : Round → Trees → Phase → List Key → List (Key × List Person)
applicants_of_projects round db phase keys = map (λ k. (k, map (λ l. l.person) (lines_shown round db phase k))) keys

abbrev pub placed_of_projects : Round → Trees → Phase → List Key → List (Key × List Person)
placed_of_projects round db phase keys =
    map (λ k. (k, placed_at_shown round db phase k (lines_shown round db phase k))) keys

pub record AreStudentsOf (round : Round) (db : Trees) (phase : Phase) (keys : List Key) (told : ProjectStudents) : Type 0 where
  pub applicants : map with_persons told.applicants.items ≡ applicants_of_projects round db phase keys
  pub placed : map with_persons told.placed.items ≡ placed_of_projects round db phase keys

-- what the lecturer sees whose row is shown, with the catalogue, a ranking, and what is told of the
-- own projects
abbrev pub lecturer_sees_with : Round → Phase → Row → List Listing → Option (List Key) → List (Key × List Person)
    → List (Key × List Person) → LecturerSees
lecturer_sees_with round phase c offers ranking applicants placed =
    record {
      round = round;
      phase = phase;
      me = record { key = first_cell c; name = bytes (column c 1) };
      capacity = number_in (column c 3);
      catalogue = offers;
      applicants = applicants;
      ranking = ranking;
      placed = placed;
    }

abbrev pub lecturer_shown : Round → Trees → Phase → Row → List Listing → LecturerSees
lecturer_shown round db phase c offers =
    let own = own_keys_shown db (first_cell c) in
    lecturer_sees_with round phase c offers (ranking_shown round db c) (applicants_of_projects round db phase own) (placed_of_projects round db phase own)

-- the keys of the lecturer's projects have their form
pub record HasOwnKeys (lecturer : Key) (db : Database) : Type 0 where
  pub tables : HasTables db
  pub keys : AllByRecursion (λ k. is_key k ≡ true) (own_keys_shown db.trees lecturer)

-- What the reading of a lecturer's view asks, whose row is shown: the row's cells, the ranking, the
-- keys of the own projects, and what may be told of students have their forms.
pub record IsReadableByLecturer (round : Round) (c : Row) (db : Database) : Type 0 where
  pub person : IsNamed c
  pub low : 1 ≤ number_in (column c 3)
  pub high : number_in (column c 3) ≤ most_places
  pub ranking : IsFine (Rankings round) db.trees c
  pub projects : HasOwnKeys (first_cell c) db
  pub students : HasStudents round db

-- what the student sees whose row is shown, with the catalogue, a list and a place
abbrev pub student_sees_with : Round → Phase → Row → List Listing → List Key → Option Key → StudentSees
student_sees_with round phase c offers choices place =
    record {
      round = round;
      phase = phase;
      me = record { key = first_cell c; name = bytes (column c 1) };
      catalogue = offers;
      choices = choices;
      result = place;
    }

abbrev pub student_shown : Round → Trees → Phase → Row → List Listing → StudentSees
student_shown round db phase c offers =
    student_sees_with round phase c offers (choice_shown round db c) (result_shown round db phase c)

-- what the reading of a student's view asks: key, name and places have their forms, and the list of
-- the round has no gap
pub record IsReadable (round : Round) (db : Trees) (c : Row) : Type 0 where
  pub person : IsNamed c
  pub whole : IsWhole (of_key (first_cell c) (db (tree_of (Choices round))))
  pub names : AllByRecursion (λ k. is_key k ≡ true) (choice_shown round db c)
  pub first : HasFirstPlace c
  pub place : HasPlacement round db c
