-- The bodies of replies as JSON, and the office's two texts of the result: CSV and the report.
use Rattle.portal_rules.specs.Base.{Data, null, number, unsigned, string, array, object, Members, no_members, member}
use Rattle.portal_rules.specs.Base.{list_any, find, flat_map, join_by, Phase, Round, First, Second}
use Rattle.std.specs.Prelude.{ℕ, List, [], ◌∷◌, map, Option, Some, None, Bool, not, if◌then◌else◌, codes, ◌++◌, filter}
use Rattle.std.specs.Prelude.{length, ◌-◌, ◌||◌, ◌==◌, decimal, replicate}
use Rattle.serde_json.specs.View.{items_of}
use Rattle.std.specs.List.{count_by}
use Rattle.portal_rules.specs.Words.{Key, equals}
use Rattle.portal_rules.specs.World.{has_result, phase_word, placement_in, Person, Listing, ProjectRow, StudentRow}
use Rattle.portal_rules.specs.Calls.{StudentSees, LecturerSees, OfficeSees}

abbrev pub members : List (List ℕ × Data) → Members
members [] = no_members
members (m ∷ ms) = member m.0 m.1 (members ms)

-- a JSON object; each use gives its members in the byte order of their keys
abbrev pub dictionary : List (List ℕ × Data) → Data
dictionary ms = object (members ms)

abbrev pub several : List Data → Data
several ds = array (items_of ds)

abbrev pub texts : List (List ℕ) → Data
texts ks = several (map string ks)

abbrev pub count : ℕ → Data
count n = number (unsigned n)

abbrev pub text_or_null : Option (List ℕ) → Data
text_or_null None = null
text_or_null (Some k) = string k

abbrev pub texts_or_null : Option (List (List ℕ)) → Data
texts_or_null None = null
texts_or_null (Some ks) = texts ks

-- the body of a refusal: the error word, and the number of a row, if there is one
abbrev pub fault_body : List ℕ → Option ℕ → Data
fault_body word None = dictionary ((codes "error", string word) ∷ [])
fault_body word (Some row) = dictionary ((codes "error", string word) ∷ (codes "row", count row) ∷ [])

abbrev pub listing : Listing → Data
listing l =
    dictionary ((codes "capacity", count l.capacity)
    ∷ (codes "id", string l.key) ∷ (codes "lecturer", string l.lecturer)
    ∷ (codes "lecturer_name", string l.lecturer_name) ∷ (codes "title", string l.title) ∷ [])

abbrev pub person : Person → Data
person p = dictionary ((codes "key", string p.key) ∷ (codes "name", string p.name) ∷ [])

abbrev pub projects : List Data → Data
projects ds = dictionary ((codes "projects", several ds) ∷ [])

abbrev pub catalogue_body : List Listing → Data
catalogue_body ls = projects (map listing ls)

abbrev pub projects_body : List Key → Data
projects_body ks = projects (map string ks)

abbrev pub students_body : Option (List Key) → Data
students_body o = dictionary ((codes "students", texts_or_null o) ∷ [])

-- projects, each with its applicants, or with the students placed there

abbrev pub applicants_body : List (Key × List Person) → Data
applicants_body ps = projects (map (λ p. dictionary (
    (codes "applicants", several (map person p.1)) ∷ (codes "id", string p.0) ∷ [])) ps)

abbrev pub placed_body : List (Key × List Person) → Data
placed_body ps = projects (map (λ p. dictionary (
    (codes "id", string p.0) ∷ (codes "students", several (map person p.1)) ∷ [])) ps)

abbrev pub project_body : Option Key → Data
project_body o = dictionary ((codes "project", text_or_null o) ∷ [])

-- only replies of the second round have the member `round`
abbrev pub round_member : Round → List (List ℕ × Data)
round_member First = []
round_member Second = (codes "round", count 2) ∷ []

abbrev pub phase_body : Round → Phase → Data
phase_body round phase = dictionary ((codes "phase", string (phase_word phase)) ∷ round_member round)

-- the reply to `Me`, for each kind of caller

abbrev pub student_me : StudentSees → Data
student_me v =
    dictionary ((codes "key", string v.me.key) ∷ (codes "name", string v.me.name)
    ∷ (codes "phase", string (phase_word v.phase)) ∷ (codes "role", string (codes "student")) ∷ round_member v.round)

abbrev pub lecturer_me : LecturerSees → Data
lecturer_me v =
    dictionary ((codes "capacity", count v.capacity) ∷ (codes "key", string v.me.key) ∷ (codes "name", string v.me.name)
    ∷ (codes "phase", string (phase_word v.phase)) ∷ (codes "role", string (codes "lecturer")) ∷ round_member v.round)

abbrev pub office_me : OfficeSees → Data
office_me v =
    dictionary ((codes "phase", string (phase_word v.phase))
    ∷ (codes "role", string (codes "office")) ∷ round_member v.round)

-- replies to the office

abbrev pub roll_body : ℕ → ℕ → Data
roll_body new same = dictionary ((codes "added", count new) ∷ (codes "same", count same) ∷ [])

abbrev pub is_assigned : List (Key × Key) → Key → Bool
is_assigned pairs k = list_any (λ x. equals x.0 k) pairs

-- the students without a project in the result
abbrev pub unassigned : OfficeSees → List Key
unassigned v = map (λ s. s.key) (filter (λ s. not (is_assigned v.pairs s.key)) v.students)

abbrev pub status_body : OfficeSees → Data
status_body v =
    dictionary (
    (if has_result v.round v.phase then (codes "assigned", count (length v.pairs)) ∷ [] else [])
    ++ (codes "lecturers", count (length v.lecturers)) ∷ (codes "phase", string (phase_word v.phase))
    ∷ (codes "projects", count (length v.projects)) ∷ []
    ++ round_member v.round ++ (codes "still_to_rank", texts v.still_to_rank)
    ∷ (codes "students", count (length v.students)) ∷ []
    ++ (if has_result v.round v.phase then (codes "unassigned", texts (unassigned v)) ∷ [] else [])
    ++ (codes "without_list", texts v.without_list) ∷ [])

abbrev pub filled_body : List Key → Data
filled_body ks = dictionary ((codes "filled", texts ks) ∷ [])

-- a pair of a student and a project
abbrev pub pair : Key × Key → Data
pair x = dictionary ((codes "project", string x.1) ∷ (codes "student", string x.0) ∷ [])

abbrev pub allocation_body : List (Key × Key) → Data
allocation_body pairs = dictionary ((codes "pairs", several (map pair pairs)) ∷ [])

abbrev pub project_with : List ProjectRow → Option Key → Option ProjectRow
project_with projects None = None
project_with projects (Some k) = find (λ p. equals p.key k) projects

-- the student's project in the result
abbrev pub project_given : OfficeSees → StudentRow → Option ProjectRow
project_given v s = project_with v.projects (placement_in v.pairs s.key)

abbrev pub line_feed : List ℕ
line_feed = 10 ∷ []

-- The result as CSV. A field with a comma, quote, CR or LF is quoted, with its quotes doubled.

abbrev pub needs_quotes : ℕ → Bool
needs_quotes b = b == 44 || b == 34 || b == 13 || b == 10

abbrev pub doubled : ℕ → List ℕ
doubled b = if b == 34 then 34 ∷ 34 ∷ [] else b ∷ []

abbrev pub csv_field : List ℕ → List ℕ
csv_field text = if list_any needs_quotes text then 34 ∷ flat_map doubled text ++ 34 ∷ [] else text

abbrev pub csv_record : List (List ℕ) → List ℕ
csv_record fields = join_by csv_field (codes ",") fields ++ line_feed

abbrev pub csv_header : List (List ℕ)
csv_header = codes "student" ∷ codes "name" ∷ codes "project" ∷ codes "title" ∷ codes "lecturer" ∷ []

-- three empty fields for a student without a project
abbrev pub project_fields : Option ProjectRow → List (List ℕ)
project_fields None = [] ∷ [] ∷ [] ∷ []
project_fields (Some p) = p.key ∷ p.title ∷ p.lecturer ∷ []

abbrev pub student_fields : OfficeSees → StudentRow → List (List ℕ)
student_fields v s = s.key ∷ s.name ∷ project_fields (project_given v s)

-- the header, and a record for each student
abbrev pub csv_text : OfficeSees → List ℕ
csv_text v = csv_record csv_header ++ flat_map (λ s. csv_record (student_fields v s)) v.students

-- The result as text.

-- the text, left- or right-aligned with blanks in this width; a longer text stays whole
abbrev pub padded_left : ℕ → List ℕ → List ℕ
padded_left width text = text ++ replicate (width - length text) 32

abbrev pub padded_right : ℕ → List ℕ → List ℕ
padded_right width text = replicate (width - length text) 32 ++ text

abbrev pub project_and_lecturer : Option ProjectRow → List ℕ
project_and_lecturer None = codes "(none)"
project_and_lecturer (Some p) = padded_left 16 p.key ++ codes "  " ++ p.lecturer

abbrev pub student_line : OfficeSees → StudentRow → List ℕ
student_line v s = padded_left 16 s.key ++ codes "  " ++ project_and_lecturer (project_given v s) ++ line_feed

-- the number of students at the project
abbrev pub students_at : List (Key × Key) → Key → ℕ
students_at pairs p = count_by (λ (x : Key × Key). equals x.1 p) pairs

abbrev pub project_line : OfficeSees → ProjectRow → List ℕ
project_line v p =
    padded_left 16 p.key ++ padded_right 4 (decimal (students_at v.pairs p.key)) ++ codes " of "
    ++ padded_right 4 (decimal p.capacity) ++ line_feed

abbrev pub assigned_line : OfficeSees → List ℕ
assigned_line v =
    codes "assigned " ++ decimal (length v.pairs) ++ codes " of " ++ decimal (length v.students) ++ line_feed

-- the lines of students, the lines of projects and the totals, with an empty line between them
abbrev pub result_text : OfficeSees → List ℕ
result_text v =
    flat_map (student_line v) v.students ++ line_feed ++ flat_map (project_line v) v.projects ++ line_feed
    ++ assigned_line v
