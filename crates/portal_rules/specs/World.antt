-- The world, which is all that the portal stores, and its changes. Rows are in the order of keys.
use Rattle.portal_rules.specs.Base.{list_any, filter_map, find, Phase, Setup, Choosing, Ranking, Published, Round}
use Rattle.portal_rules.specs.Base.{First, Second}
use Rattle.std.specs.Prelude.{ℕ, ◌-◌, nat_lt, Bool, true, false, not, ◌&&◌, ◌||◌, if◌then◌else◌, List, [], map, filter}
use Rattle.std.specs.Prelude.{count_by, codes, Option, Some, None, is_none, option_map}
pub use Rattle.portal_rules.specs.declared.rows.LecturerRow.{LecturerRow}
pub use Rattle.portal_rules.specs.declared.rows.ProjectRow.{ProjectRow}
pub use Rattle.portal_rules.specs.declared.rows.StudentRow.{StudentRow}
pub use Rattle.portal_rules.specs.declared.rows.Person.{Person}
pub use Rattle.portal_rules.specs.declared.rows.Listing.{Listing}
use Rattle.portal_rules.specs.Words.{Key, equals, has, is_empty, put_all}

-- a lecturer's row and current ranking, if any; in the second round also that of the first
pub record Lecturer : Type 0 where
  pub row : LecturerRow
  pub ranking : Option (List Key)
  pub earlier_ranking : Option (List Key)

-- a student's row, list (best first) and result; in the second round also those of the first
pub record Student : Type 0 where
  pub row : StudentRow
  pub choice : List Key
  pub placed : Option Key
  pub earlier_choice : List Key
  pub earlier_placement : Option Key

pub record World : Type 0 where
  pub round : Round
  pub phase : Phase
  pub office : Key
  pub lecturers : List Lecturer
  pub projects : List ProjectRow
  pub students : List Student

abbrev pub lecturer_key : Lecturer → Key
lecturer_key l = l.row.key

abbrev pub project_key : ProjectRow → Key
project_key p = p.key

abbrev pub student_key : Student → Key
student_key s = s.row.key

-- the students who list the project
abbrev pub applicants_to : World → Key → List Student
applicants_to w p = filter (λ s. has s.choice p) w.students

abbrev pub projects_of : World → Key → List ProjectRow
projects_of w l = filter (λ p. equals p.lecturer l) w.projects

-- the students who list a project of the lecturer
abbrev pub applicants_of : World → Key → List Student
applicants_of w l = filter (λ s. list_any (λ p. has s.choice p.key) (projects_of w l)) w.students

-- the lecturer has an applicant and no ranking
abbrev pub is_still_to_rank : World → Lecturer → Bool
is_still_to_rank w l = not (is_empty (applicants_of w l.row.key)) && is_none l.ranking

-- the placement is project p
abbrev pub is_at : Key → Option Key → Bool
is_at p None = false
is_at p (Some q) = equals q p

abbrev pub is_setup : Phase → Bool
is_setup Setup = true
is_setup _ = false

abbrev pub is_choosing : Phase → Bool
is_choosing Choosing = true
is_choosing _ = false

abbrev pub is_ranking : Phase → Bool
is_ranking Ranking = true
is_ranking _ = false

abbrev pub is_published : Phase → Bool
is_published Published = true
is_published _ = false

-- the students' lists are closed
abbrev pub is_from_ranking : Phase → Bool
is_from_ranking phase = is_ranking phase || is_published phase

abbrev pub phase_word : Phase → List ℕ
phase_word Setup = codes "setup"
phase_word Choosing = codes "choosing"
phase_word Ranking = codes "ranking"
phase_word Published = codes "published"

abbrev pub is_second : Round → Bool
is_second First = false
is_second Second = true

-- there is a result: in published, and in the whole second round, which shows the first one's
abbrev pub has_result : Round → Phase → Bool
has_result First phase = is_published phase
has_result Second phase = true

-- the project that a student is shown: the first round's, else this round's once it is published
abbrev pub shown_placement : Phase → Student → Option Key
shown_placement phase s =
    if is_none s.earlier_placement then (if is_published phase then s.placed else None) else s.earlier_placement

-- the students whose shown placement is the project
abbrev pub placed_at : World → Key → List Student
placed_at w p = filter (λ s. is_at p (shown_placement w.phase s)) w.students

-- the placements as pairs of a student and a project, in the order of students
abbrev pub pairs_with : (Student → Option Key) → List Student → List (Key × Key)
pairs_with place ss = filter_map (λ s. option_map (λ p. (s.row.key, p)) (place s)) ss

-- the shown placements, as pairs
abbrev pub pairs_of : World → List (Key × Key)
pairs_of w = pairs_with (shown_placement w.phase) w.students

-- what the first round left

-- the student has no project of the first round
abbrev pub is_left : Student → Bool
is_left s = is_none s.earlier_placement

-- the number of students at a project in a result, and with a lecturer over all projects
abbrev pub count_at : (Student → Option Key) → List Student → Key → ℕ
count_at placement ss p = count_by (λ s. is_at p (placement s)) ss

abbrev pub count_with : (Student → Option Key) → List ProjectRow → List Student → Key → ℕ
count_with placement ps ss l = count_by (λ s. list_any (λ p. equals p.lecturer l && is_at p.key (placement s)) ps) ss

-- the same for the result of the first round
abbrev pub given_to : List Student → Key → ℕ
given_to = count_at (λ s. s.earlier_placement)

abbrev pub given_with : List ProjectRow → List Student → Key → ℕ
given_with = count_with (λ s. s.earlier_placement)

abbrev pub lowered_lecturer : List ProjectRow → List Student → Lecturer → Lecturer
lowered_lecturer ps ss l = record l { row = record l.row { capacity = l.row.capacity - given_with ps ss l.row.key } }

abbrev pub lowered_project : List Student → ProjectRow → ProjectRow
lowered_project ss p = record p { capacity = p.capacity - given_to ss p.key }

-- the lecturers with room left, which becomes their capacity
abbrev pub lecturers_left : List Lecturer → List ProjectRow → List Student → List Lecturer
lecturers_left ls ps ss = filter (λ l. nat_lt 0 l.row.capacity) (map (lowered_lecturer ps ss) ls)

-- the projects with room left, which becomes their capacity, if their lecturers have room left
abbrev pub projects_left : List Lecturer → List ProjectRow → List Student → List ProjectRow
projects_left ls ps ss =
    filter (λ p. nat_lt 0 p.capacity && has (map lecturer_key (lecturers_left ls ps ss)) p.lecturer)
    (map (lowered_project ss) ps)

abbrev pub students_left : List Student → List Student
students_left ss = filter is_left ss

-- who and what takes part in a round

abbrev pub lecturers_in : Round → List Lecturer → List ProjectRow → List Student → List Lecturer
lecturers_in First ls ps ss = ls
lecturers_in Second ls ps ss = lecturers_left ls ps ss

abbrev pub projects_in : Round → List Lecturer → List ProjectRow → List Student → List ProjectRow
projects_in First ls ps ss = ps
projects_in Second ls ps ss = projects_left ls ps ss

abbrev pub students_in : Round → List Student → List Student
students_in First ss = ss
students_in Second ss = students_left ss

-- the world of the current round: all rows in the first, what the first left in the second
abbrev pub in_play : World → World
in_play w =
    record w {
      lecturers = lecturers_in w.round w.lecturers w.projects w.students;
      projects = projects_in w.round w.lecturers w.projects w.students;
      students = students_in w.round w.students;
    }

abbrev pub first_published : Lecturer → Lecturer
first_published l = record { row = l.row; ranking = l.earlier_ranking; earlier_ranking = None }

abbrev pub first_placed : Student → Student
first_placed s = record {
  row = s.row;
  choice = s.earlier_choice;
  placed = s.earlier_placement;
  earlier_choice = [];
  earlier_placement = None;
}

-- for a world of the second round: the world in which the first round was published
abbrev pub first : World → World
first w = record w {
  round = First;
  phase = Published;
  lecturers = map first_published w.lecturers;
  students = map first_placed w.students;
}

-- a change; `Placements` publishes pairs of student and project, `Fill` adds the missing rankings
pub data Change : Type 0 where
  Choices : Key → List Key → Change
  Ranks : Key → List Key → Change
  Lecturers : List LecturerRow → Change
  Projects : List ProjectRow → Change
  Students : List StudentRow → Change
  To : Phase → Change
  Placements : List (Key × Key) → Change
  Fill : Change
  SecondRound : Change

abbrev pub with_choice : Key → List Key → Student → Student
with_choice k list s = if equals s.row.key k then record s { choice = list } else s

abbrev pub with_ranking : Key → List Key → Lecturer → Lecturer
with_ranking k list l = if equals l.row.key k then record l { ranking = Some list } else l

-- a new row has no ranking, no list and no placement
abbrev pub new_lecturer : LecturerRow → Lecturer
new_lecturer r = record { row = r; ranking = None; earlier_ranking = None }

abbrev pub new_student : StudentRow → Student
new_student r = record { row = r; choice = []; placed = None; earlier_choice = []; earlier_placement = None }

-- the project that the pairs give to the student
abbrev pub placement_in : List (Key × Key) → Key → Option Key
placement_in pairs s = option_map (λ (x : Key × Key). x.1) (find (λ x. equals x.0 s) pairs)

abbrev pub with_place : List (Key × Key) → Student → Student
with_place pairs s = if is_left s then record s { placed = placement_in pairs s.row.key } else s

-- a lecturer with a missing ranking ranks the applicants in the order of their keys
abbrev pub with_fill : World → Lecturer → Lecturer
with_fill w l =
    if is_still_to_rank w l then record l { ranking = Some (map student_key (applicants_of w l.row.key)) } else l

-- the world with new rows on a roll
abbrev pub with_lecturers : World → List LecturerRow → World
with_lecturers w rows = record w { lecturers = put_all lecturer_key (map new_lecturer rows) w.lecturers }

abbrev pub with_projects : World → List ProjectRow → World
with_projects w rows = record w { projects = put_all project_key rows w.projects }

abbrev pub with_students : World → List StudentRow → World
with_students w rows = record w { students = put_all student_key (map new_student rows) w.students }

-- when the second round opens, lists, rankings and placements become the earlier ones
abbrev pub ranked_before : Lecturer → Lecturer
ranked_before l = record { row = l.row; ranking = None; earlier_ranking = l.ranking }

abbrev pub placed_before : Student → Student
placed_before s =
    record { row = s.row; choice = []; placed = None; earlier_choice = s.choice; earlier_placement = s.placed }

-- the second round opens only after a published first; any other world stays as it is
abbrev pub opened : Round → Phase → World → World
opened First Published w = record w {
  round = Second;
  phase = Choosing;
  lecturers = map ranked_before w.lecturers;
  students = map placed_before w.students;
}
opened _ _ w = w

-- only the first round takes new rows; a world of the second stays as it is
abbrev pub in_first : Round → World → World → World
in_first First new old = new
in_first Second new old = old

-- the world after one change
abbrev pub changed : World → Change → World
changed w (Choices k list) = record w { students = map (with_choice k list) w.students }
changed w (Ranks k list) = record w { lecturers = map (with_ranking k list) w.lecturers }
changed w (Lecturers rows) = in_first w.round (with_lecturers w rows) w
changed w (Projects rows) = in_first w.round (with_projects w rows) w
changed w (Students rows) = in_first w.round (with_students w rows) w
changed w (To phase) = record w { phase = phase }
changed w (Placements pairs) = record w { phase = Published; students = map (with_place pairs) w.students }
changed w Fill = record w { lecturers = map (with_fill w) w.lecturers }
changed w SecondRound = opened w.round w.phase w
