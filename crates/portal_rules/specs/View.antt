-- What each kind of caller sees of the world. Only the code identifies a caller.
use Rattle.portal_rules.specs.Base.{find, filter_map}
use Rattle.std.specs.Prelude.{if◌then◌else◌, List, [], map, filter, Option, Some, None, option_map, ◌≡◌, Contains}
use Rattle.portal_rules.specs.Words.{Key, equals, is_empty}
use Rattle.portal_rules.specs.World as rows
use Rattle.portal_rules.specs.World.{World, applicants_to, projects_of, is_still_to_rank, in_play, placed_at, pairs_of}
use Rattle.portal_rules.specs.World.{shown_placement, is_from_ranking, Person, Listing, ProjectRow}
use Rattle.portal_rules.specs.Calls.{StudentSees, LecturerSees, OfficeSees}
use Rattle.portal_rules.specs.declared.view.View.{View as Sight}
use Rattle.portal_rules.specs.declared.view.View.TheVariants.{Nobody, Office, Lecturer, Student}

abbrev pub persons : List rows.Student → List Person
persons ss = map (λ s. record { key = s.row.key; name = s.row.name }) ss

-- the name of the lecturer with this key
abbrev pub name_in : List rows.Lecturer → Key → Option Key
name_in ls k = option_map (λ (l : rows.Lecturer). l.row.name) (find (λ l. equals l.row.key k) ls)

abbrev pub listing_with : ProjectRow → Key → Listing
listing_with p name =
    record { key = p.key; title = p.title; lecturer = p.lecturer; lecturer_name = name; capacity = p.capacity }

-- each project with its lecturer's name; a good world has no unknown lecturer, so none is left out
abbrev pub listings : List rows.Lecturer → List ProjectRow → List Listing
listings ls ps = filter_map (λ p. option_map (listing_with p) (name_in ls p.lecturer)) ps

abbrev pub catalogue : World → List Listing
catalogue w = listings (in_play w).lecturers (in_play w).projects

abbrev pub student_sees : World → rows.Student → StudentSees
student_sees w s =
    record {
      round = w.round;
      phase = w.phase;
      me = record { key = s.row.key; name = s.row.name };
      catalogue = catalogue w;
      choices = s.choice;
      result = shown_placement w.phase s;
    }

abbrev pub lecturer_sees : World → rows.Lecturer → LecturerSees
lecturer_sees w l =
    record {
      round = w.round;
      phase = w.phase;
      me = record { key = l.row.key; name = l.row.name };
      capacity = l.row.capacity;
      catalogue = catalogue w;
      applicants =
          map (λ p. (p.key, if is_from_ranking w.phase then persons (applicants_to w p.key) else [])) (projects_of w l.row.key);
      ranking = l.ranking;
      placed = map (λ p. (p.key, persons (placed_at w p.key))) (projects_of w l.row.key);
    }

abbrev pub office_sees : World → OfficeSees
office_sees w =
    record {
      round = w.round;
      phase = w.phase;
      office_code = w.office;
      lecturers = map (λ l. l.row) w.lecturers;
      projects = w.projects;
      students = map (λ s. s.row) w.students;
      catalogue = catalogue w;
      without_list = map (λ s. s.row.key) (filter (λ s. is_empty s.choice) (in_play w).students);
      still_to_rank =
          if is_from_ranking w.phase then map (λ l. l.row.key) (filter (is_still_to_rank w) w.lecturers) else [];
      pairs = pairs_of w;
    }

-- the caller whom a code identifies
pub data Caller : Type 0 where
  NoCaller : Caller
  OfficeCaller : Caller
  LecturerCaller : rows.Lecturer → Caller
  StudentCaller : rows.Student → Caller

abbrev pub caller_among : Option rows.Lecturer → Option rows.Student → Caller
caller_among (Some l) s = LecturerCaller l
caller_among None (Some s) = StudentCaller s
caller_among None None = NoCaller

abbrev pub lecturer_with : World → Key → Option rows.Lecturer
lecturer_with w code = find (λ l. equals l.row.code code) w.lecturers

abbrev pub student_with : World → Key → Option rows.Student
student_with w code = find (λ s. equals s.row.code code) w.students

abbrev pub caller : World → Key → Caller
caller w code = if equals w.office code then OfficeCaller else caller_among (lecturer_with w code) (student_with w code)

abbrev pub sight_of : World → Caller → Sight
sight_of w NoCaller = Nobody
sight_of w OfficeCaller = Office (office_sees w)
sight_of w (LecturerCaller l) = Lecturer (lecturer_sees w l)
sight_of w (StudentCaller s) = Student (student_sees w s)

abbrev pub view : World → Key → Sight
view w code = sight_of w (caller w code)

-- the lists of students at projects show student s at project p
abbrev pub IsShownAt : List (Key × List Person) → Key → Person → Type 0
IsShownAt placed p s = (there : List Person) × Contains placed (p, there) × Contains there s

-- the same person still sees every placement seen before, perhaps more; an unknown code saw none
abbrev pub ShowsStill : Sight → Sight → Type 0
ShowsStill Nobody after = Unit {0}
ShowsStill (Student v) (Student u) = (u.me ≡ v.me) × ((p : Key) → v.result ≡ Some p → u.result ≡ Some p)
ShowsStill (Lecturer v) (Lecturer u) =
    (u.me ≡ v.me) × ((p : Key) (s : Person) → IsShownAt v.placed p s → IsShownAt u.placed p s)
ShowsStill (Office v) (Office u) = (x : Key × Key) → Contains v.pairs x → Contains u.pairs x
ShowsStill _ _ = ⊥
