-- Refutes wrong forms of the laws on runs: that a caller who gets a 503 gets equal replies, that a refused list counts, that
-- not even the own replies tell the order of a list, and that others' requests may be struck out after ranking has opened.
use Rattle.portal_rules.proofs.Base.{◌≡◌, ℕ, ◌≤◌, Bool, false, true, cond, List, [], ◌∷◌, codes, Option, Some, None, refl, sym, ◌∙◌}
use Rattle.portal_rules.proofs.Base.{ap, subst, arith, inl, inr, AllByRecursion, Key, equals, World, changed, Choices, Lecturers}
use Rattle.portal_rules.proofs.Base.{Projects, Students, To, view, AbstractCall, Answer, answer, Good, Sound, Request, Calls}
use Rattle.portal_rules.proofs.Base.{Run, Serves, Step, AllAnswered, unavailable, Heard, HeardItem, Asked, replies_to}
use Rattle.portal_rules.proofs.Base.{SameUpToListOrder, SameRequest, AllZip, Reordered, Turn, Sets}
use Rattle.portal_rules.proofs.Reorder.{reordered_itself}
use Rattle.portal_rules.specs.declared.phase.Phase.TheVariants.{Setup, Choosing, Ranking}
use Rattle.portal_rules.specs.declared.phase.Round.TheVariants.{First}
use Rattle.portal_rules.specs.declared.rows.LecturerRow.{LecturerRow}
use Rattle.portal_rules.specs.declared.rows.ProjectRow.{ProjectRow}
use Rattle.portal_rules.specs.declared.rows.StudentRow.{StudentRow}
use Rattle.std.specs.Str.{is_utf8, IsAscii}
use Rattle.std.proofs.Common.{zero, suc}
use Rattle.std.proofs.lemmas.Str.{IsUtf8-from_ascii, is_utf8-from_IsUtf8}
use Rattle.portal_rules.specs.Words.{is_name}
use Rattle.portal_rules.proofs.Base.{projects_body, applicants_body}
use Rattle.portal_rules.specs.Answer.{Said, Json, Unavailable}
use Rattle.portal_rules.specs.declared.rows.Person.{Person}
use Rattle.portal_rules.proofs.Only.{one_run}
use Rattle.portal_rules.proofs.Steps.{run_good}
use Rattle.portal_core.specs.Saved.{AreLast, submission}
use Rattle.portal_core.specs.Unseen.{own_and_office}

-- ---- a small year, from a new portal to open lists

-- one name for all, so that one proof serves
abbrev name : List ℕ
name = codes "Ann"

ascii : IsAscii name
ascii zero = omega arith
ascii (suc zero) = omega arith
ascii (suc (suc zero)) = omega arith
ascii (suc (suc (suc k))) = omega arith

is_named : is_name name ≡ true
is_named = let text : is_utf8 name ≡ true = is_utf8-from_IsUtf8 name (IsUtf8-from_ascii name ascii) in grind (arith, text)

abbrev office : Key
office = codes "office-code-0"

abbrev lee : Key
lee = codes "lee-code-01"

abbrev ann : Key
ann = codes "ann-code-1"

abbrev by : Key → AbstractCall → Request
by code ask = record { code = code; head = false; closes = false; wish = Calls ask }

abbrev pub new : World
new = record { round = First; phase = Setup; office = office; lecturers = []; projects = []; students = [] }

abbrev lecturers : List LecturerRow
lecturers = record { key = codes "L1"; name = name; code = lee; capacity = 2 } ∷ []

abbrev project : List ℕ → List ℕ → ProjectRow
project key title = record { key = key; lecturer = codes "L1"; title = title; capacity = 1 }

abbrev projects : List ProjectRow
projects = project (codes "P") name ∷ project (codes "P1") name ∷ []

abbrev students : List StudentRow
students = record { key = codes "S1"; name = name; code = ann } ∷ []

abbrev with_lecturers : World
with_lecturers = changed new (Lecturers lecturers)

abbrev with_projects : World
with_projects = changed with_lecturers (Projects projects)

abbrev with_students : World
with_students = changed with_projects (Students students)

abbrev opened : World
opened = changed with_students (To Choosing)

pub good_new : Good new
good_new = record {
  sound = record {
    lecturers_rise = tt;
    projects_rise = tt;
    students_rise = tt;
    lecturer_forms = tt;
    project_forms = tt;
    student_forms = tt;
    office_form = refl;
    few_lecturers = omega arith;
    few_projects = omega arith;
    few_students = omega arith;
    codes = (refl, tt);
    lecturers_known = tt;
    choices = tt;
    no_choices_yet = λ h. tt;
    no_rankings_yet = λ h. tt;
    rankings = tt;
    no_result_yet = λ h. tt;
    all_ranked = λ h. tt;
    no_earlier_lists = λ h. tt;
    no_earlier_rankings = λ h. tt;
    no_second_setup = λ h. cc;
    only_left = tt;
  };
  stable = λ h. cc;
  before = λ h. cc;
}

good_opened : Good opened
good_opened =
    (run_good new
    (by office (AbstractCall.AddLecturers lecturers) ∷ by office (AbstractCall.AddProjects projects)
    ∷ by office (AbstractCall.AddStudents students) ∷ by office (AbstractCall.Move Choosing None) ∷ [])
    (answer (view new office) (AbstractCall.AddLecturers lecturers)
    ∷ answer (view with_lecturers office) (AbstractCall.AddProjects projects)
    ∷ answer (view with_projects office) (AbstractCall.AddStudents students)
    ∷ answer (view with_students office) (AbstractCall.Move Choosing None) ∷ [])
    (with_lecturers ∷ with_projects ∷ with_students ∷ opened ∷ []) good_new (
      inl (record {
        form = (record { key = refl; name = is_named; code = refl; low = omega arith; high = omega arith }, tt);
        told = refl;
        left = refl;
      }),
      (
        inl (record {
          form = (
            record { key = refl; lecturer = refl; title = is_named; low = omega arith; high = omega arith },
            (record { key = refl; lecturer = refl; title = is_named; low = omega arith; high = omega arith }, tt),
          );
          told = refl;
          left = refl;
        }),
        (
          inl (record { form = (record { key = refl; name = is_named; code = refl }, tt); told = refl; left = refl }),
          (inl (record { form = tt; told = refl; left = refl }), tt),
        ),
      ),
    )).1.1.1.0

known : (a : Answer) → a.status ≡ 200 → a ≡ unavailable → ⊥
known a ok e = omega (arith, ok, ap (λ (b : Answer). b.status) e)

-- ---- a caller who gets a 503 may get other replies than one who does not

abbrev SameAlways : Type 0
SameAlways =
    (c : Key) (w v : World) (asked others : List Request) (told said : List Answer) (after later : List World)
    (items : List HeardItem) → Run w asked told after → Heard c w asked after items → Run v others said later
    → Heard c v others later items → view w c ≡ view v c → replies_to c asked told ≡ replies_to c others said

abbrev looks : List Request
looks = by ann AbstractCall.ShowChoices ∷ []

abbrev own : List HeardItem
own = Asked false false (Calls AbstractCall.ShowChoices) ∷ []

heard : Heard ann opened looks (opened ∷ []) own
heard = (own, [], ([], refl, refl), refl, refl)

status_of : List Answer → ℕ
status_of [] = 0
status_of (a ∷ told) = a.status

pub not_always : SameAlways → ⊥
unfolding status_of
not_always law =
    let same = law ann opened opened looks looks (unavailable ∷ []) (answer (view opened ann) AbstractCall.ShowChoices ∷ []) (opened ∷ [])
    (opened ∷ []) own (inr (refl, refl), tt) heard (inl (record { form = tt; told = refl; left = refl }), tt) heard refl in
    omega (arith, ap status_of same)

-- ---- a list that is refused does not count

abbrev CountsAlways : Type 0
CountsAlways =
    (w v : World) (r : Request) (a : Answer) (last : Key → Option (List Key)) → Good w → Serves w r a v → AreLast w last
    → AreLast v (λ c. cond (equals r.code c) (submission r.wish (last c)) (last c))

none_yet : AreLast opened (λ c. None)
none_yet = record { students = (refl, tt); lecturers = (inl refl, tt); others = λ c none. refl }

-- a list under a code that nobody has is refused
abbrev stranger : Key
stranger = codes "nobodys-code"

pub not_refused : CountsAlways → ⊥
not_refused law =
    let r : Request = by stranger (AbstractCall.SetChoices (codes "P1" ∷ [])) in
    let after = law opened opened r (answer (view opened stranger) (AbstractCall.SetChoices (codes "P1" ∷ []))) (λ c. None) good_opened
    (inl (record { form = tt; told = refl; left = refl })) none_yet in
    let clash : Some (codes "P1" ∷ []) ≡ None = after.others stranger refl in
    cc

-- ---- the own replies tell the order

abbrev OrderHidden : Type 0
OrderHidden =
    (v w : World) (asked others : List Request) (told : List Answer) (after : List World) → Good w → SameUpToListOrder v w
    → AllZip SameRequest asked others → Run v asked told after → AllAnswered told
    → (said : List Answer) × (later : List World) × Run w others said later × AllAnswered said × (told ≡ said)

abbrev sets_list : List Key → Request
sets_list list = by ann (AbstractCall.SetChoices list)

abbrev tides_first : List Key
tides_first = codes "P1" ∷ codes "P" ∷ []

abbrev kites_first : List Key
kites_first = codes "P" ∷ codes "P1" ∷ []

same_opened : SameUpToListOrder opened opened
same_opened = record {
  round = refl;
  phase = refl;
  office = refl;
  lecturers = refl;
  projects = refl;
  students = (
    record {
      row = refl;
      choice = reordered_itself [];
      placed = refl;
      earlier_choice = reordered_itself [];
      earlier_placement = refl;
    },
    tt,
  );
}

abbrev reply_to_list : List Key → Answer
reply_to_list list = answer (view opened ann) (AbstractCall.SetChoices list)

abbrev after_list : List Key → World
after_list list = changed opened (Choices (codes "S1") list)

-- replies are told apart by their bodies, by themselves: `cc` reads everything that is in scope
abbrev body_of : List Answer → Said
body_of [] = Unavailable
body_of (a ∷ rest) = a.body

orders_differ : Json (projects_body tides_first) ≡ Json (projects_body kites_first) → ⊥
orders_differ e = cc

pub not_hidden : OrderHidden → ⊥
not_hidden law =
    let other = law opened opened (sets_list tides_first ∷ []) (sets_list kites_first ∷ []) (reply_to_list tides_first ∷ [])
    (after_list tides_first ∷ []) good_opened same_opened
    (record { code = refl; head = refl; closes = refl; wish = Sets (Turn (codes "P1") (codes "P") []) }, tt)
    (inl (record { form = tt; told = refl; left = refl }), tt) (known (reply_to_list tides_first) refl, tt) in
    let one = one_run opened (sets_list kites_first ∷ []) other.0 (reply_to_list kites_first ∷ []) other.1
    (after_list kites_first ∷ []) other.2 other.3 (inl (record { form = tt; told = refl; left = refl }), tt)
    (known (reply_to_list kites_first) refl, tt) in
    orders_differ (ap body_of (other.4 ∙ one.0))

-- ---- once ranking opens, applicants are seen

abbrev PurgedAlways : Type 0
PurgedAlways =
    (c : Key) (w : World) (asked : List Request) (told : List Answer) (after : List World) → Good w
    → equals w.office c ≡ false → Run w asked told after → AllAnswered told
    → (said : List Answer) × (later : List World) × Run w (own_and_office c w.office asked) said later
    × AllAnswered said × (replies_to c (own_and_office c w.office asked) said ≡ replies_to c asked told)

abbrev closes : Request
closes = by office (AbstractCall.Move Ranking None)

abbrev ranked : World → World
ranked w = changed w (To Ranking)

abbrev applicants : World → Answer
applicants w = answer (view (ranked w) lee) AbstractCall.Applicants

abbrev ann_herself : Person
ann_herself = record { key = codes "S1"; name = name }

applicants_differ : Json (applicants_body ((codes "P", []) ∷ (codes "P1", []) ∷ []))
    ≡ Json (applicants_body ((codes "P", ann_herself ∷ []) ∷ (codes "P1", ann_herself ∷ []) ∷ [])) → ⊥
applicants_differ e = cc

pub not_purged : PurgedAlways → ⊥
not_purged law =
    let w = after_list tides_first in
    let moved : World → Answer = λ u. answer (view u office) (AbstractCall.Move Ranking None) in
    let other = law lee opened (sets_list tides_first ∷ closes ∷ by lee AbstractCall.Applicants ∷ [])
    (reply_to_list tides_first ∷ moved w ∷ applicants w ∷ []) (w ∷ ranked w ∷ ranked w ∷ []) good_opened refl (
      inl (record { form = tt; told = refl; left = refl }),
      (inl (record { form = tt; told = refl; left = refl }), (inl (record { form = tt; told = refl; left = refl }), tt)),
    )
    (known (reply_to_list tides_first) refl, (known (moved w) refl, (known (applicants w) refl, tt))) in
    let one = one_run opened (closes ∷ by lee AbstractCall.Applicants ∷ []) other.0 (moved opened ∷ applicants opened ∷ []) other.1
    (ranked opened ∷ ranked opened ∷ []) other.2 other.3
    (inl (record { form = tt; told = refl; left = refl }), (inl (record { form = tt; told = refl; left = refl }), tt))
    (known (moved opened) refl, (known (applicants opened) refl, tt)) in
    applicants_differ (ap body_of (ap (replies_to lee (closes ∷ by lee AbstractCall.Applicants ∷ [])) (sym one.0) ∙ other.4))
