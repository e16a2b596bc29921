-- What replies leave open of others: the order within their lists, all that they ask until ranking
-- opens, and to a lecturer other lecturers' projects and rankings.
use Rattle.std.specs.Prelude.{◌≡◌, ◌||◌, true, false, if◌then◌else◌, List, [], ◌∷◌, map, filter, None}
use Rattle.std.specs.List.{AllByRecursion, AllZip}
use Rattle.portal_rules.specs.Words.{Key, equals, has}
use Rattle.portal_rules.specs.World.{World, Lecturer, Student, is_from_ranking, is_published, project_key, projects_of}
use Rattle.portal_rules.specs.Good.{Good}
use Rattle.portal_rules.specs.View.{view, caller, LecturerCaller}
use Rattle.portal_rules.specs.Answer.{Answer}
use Rattle.portal_rules.specs.Run.{Request, Run, AllAnswered, end_of}
use Rattle.portal_rules.specs.Heard.{replies_to, SameUpToListOrder, SameRequest, AlikeUntilPublished}

-- for each run without a 503, and each other order within its lists, there is a run without a 503
-- whose replies are equal until published, except those with a student's list
abbrev pub OrderUndeducible : Type 0
OrderUndeducible =
    (v w : World) (asked others : List Request) (told : List Answer) (after : List World) → Good w
    → SameUpToListOrder v w → AllZip SameRequest asked others → Run v asked told after → AllAnswered told
    → (said : List Answer) × (later : List World) × Run w others said later × AllAnswered said
    × AlikeUntilPublished asked told told said

-- the requests of the caller and of the office
abbrev pub own_and_office : Key → Key → List Request → List Request
own_and_office c office asked = filter (λ r. equals r.code c || equals r.code office) asked

-- until ranking opens, the requests of all but the caller and the office may be struck out: there is
-- a run of the others without a 503, with the same replies to the caller and the same last view
abbrev pub OthersPurged : Type 0
OthersPurged =
    (c : Key) (w : World) (asked : List Request) (told : List Answer) (after : List World) → Good w
    → equals w.office c ≡ false → is_from_ranking w.phase ≡ false → Run w asked told after → AllAnswered told
    → AllByRecursion (λ v. is_from_ranking v.phase ≡ false) after
    → (said : List Answer) × (later : List World) × Run w (own_and_office c w.office asked) said later
    × AllAnswered said × (replies_to c (own_and_office c w.office asked) said ≡ replies_to c asked told)
    × (view (end_of w later) c ≡ view (end_of w after) c)

-- what a lecturer may learn of a world until published, by the own key: of lists, which own projects
-- each contains, and of rankings the own one

abbrev pub seen_student : List Key → Student → Student
seen_student own s = record s { choice = filter (has s.choice) own; placed = None; earlier_choice = [] }

abbrev pub seen_lecturer : Key → Lecturer → Lecturer
seen_lecturer key l = if equals l.row.key key then l else record l { ranking = None; earlier_ranking = None }

abbrev pub seen_by : Key → World → World
seen_by key w =
    record w {
      lecturers = map (seen_lecturer key) w.lecturers;
      students = map (seen_student (map project_key (projects_of w key))) w.students;
    }

-- the code is that of the lecturer with this key
abbrev pub IsCodeOf : Key → Key → World → Type 0
IsCodeOf c key w = (l : Lecturer) × (caller w c ≡ LecturerCaller l) × (l.row.key ≡ key)

-- two worlds that are not published, and in which this lecturer may learn the same
pub record SameToLecturer (c key : Key) (v w : World) : Type 0 where
  pub one : IsCodeOf c key v
  pub other : IsCodeOf c key w
  pub early : is_published v.phase ≡ false
  pub same : seen_by key v ≡ seen_by key w

-- both requests are the caller's, and equal, or neither is
abbrev pub SameIfOwn : Key → Request → Request → Type 0
SameIfOwn c q r = (equals q.code c ≡ equals r.code c) × (equals q.code c ≡ true → q ≡ r)

-- while the worlds of two runs are the same to a lecturer, who asks the same, the replies are
abbrev pub ListsSeenByChoiceAlone : Type 0
ListsSeenByChoiceAlone =
    (c key : Key) (v w : World) (asked others : List Request) (told said : List Answer) (after later : List World)
    → AllZip (SameToLecturer c key) (v ∷ after) (w ∷ later) → AllZip (SameIfOwn c) asked others
    → Run v asked told after → AllAnswered (replies_to c asked told) → Run w others said later
    → AllAnswered (replies_to c others said) → replies_to c asked told ≡ replies_to c others said
