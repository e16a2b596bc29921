-- Refutes laws of worlds with a wrong definition: a caller found by the key, applicants shown while
-- the second round's lists are open, a first result that is hidden or dropped, and replies that tell
-- the result.
use Rattle.std.proofs.Common.{◌≡◌, ℕ, inl, ◌⊎◌, false, ◌||◌, List, [], ◌∷◌, length, map, Option, Some, None, refl, ap}
use Rattle.std.proofs.Common.{arith, ◌<◌}
use Rattle.std.specs.Prelude.{codes, if◌then◌else◌, is_none}
use Rattle.std.specs.List.{AllByRecursion, find}
use Rattle.portal_rules.specs.declared.phase.Phase.{Phase}
use Rattle.portal_rules.specs.declared.phase.Phase.TheVariants.{Choosing, Published}
use Rattle.portal_rules.specs.declared.phase.Round.TheVariants.{First, Second}
use Rattle.portal_rules.specs.declared.view.View.{View as Sight}
use Rattle.portal_rules.specs.declared.view.View.TheVariants as sees
use Rattle.portal_rules.specs.Answer.{Answer, answer, decision}
use Rattle.portal_rules.specs.Good.{Good}
use Rattle.portal_rules.specs.Heard.{Asked, Heard, HeardItem, IsMember, replies_to}
use Rattle.portal_rules.specs.Run.{Request, Wish, Calls, NoCall, Step, StepLeaves, HasForm, AllAnswered, unavailable}
use Rattle.portal_rules.specs.Calls.{AbstractCall, LecturerSees}
use Rattle.portal_rules.specs.View.{Caller, OfficeCaller, LecturerCaller, StudentCaller, ShowsStill, caller}
use Rattle.portal_rules.specs.View.{caller_among}
use Rattle.portal_rules.specs.View.{lecturer_sees, persons, sight_of, student_sees, student_with, view}
use Rattle.portal_rules.specs.Words.{Key, equals}
use Rattle.portal_rules.specs.World.{World, Lecturer, Student, Choices, SecondRound, applicants_to, changed, first}
use Rattle.portal_rules.specs.World.{is_from_ranking}
use Rattle.portal_rules.specs.World.{is_published, is_second, pairs_of, placed_before, projects_of, ranked_before}
use Rattle.portal_rules.specs.declared.rows.Person.{Person}
use Rattle.portal_refuted.proofs.Keepers.{empty}
use Rattle.portal_refuted.proofs.GoodWorld.{ann, published, published_good, again, again_good}

-- ---- a caller who is looked up by the key

abbrev lecturer_by_key : World → Key → Option Lecturer
lecturer_by_key w code = find (λ l. equals l.row.key code) w.lecturers

abbrev view_by_key : World → Key → Sight
view_by_key w code =
    sight_of w (if equals w.office code then OfficeCaller else caller_among (lecturer_by_key w code) (student_with w code))

abbrev NamedByKey : Type 0
NamedByKey = (w : World) → Good w
    → AllByRecursion (λ s. view_by_key w s.row.code ≡ sees.Student (student_sees w s)) w.students

-- 1 for a student, 0 for others
abbrev is_student : Sight → ℕ
is_student (sees.Student v) = 1
is_student _ = 0

pub caller_by_key_is_somebody_else : NamedByKey → ⊥
caller_by_key_is_somebody_else named = omega (arith, ap is_student (named published published_good).0)

pub caller_by_code_is_the_student : view published ann.row.code ≡ sees.Student (student_sees published ann)
caller_by_code_is_the_student = refl

-- ---- applicants shown while the second round's lists are open

abbrev seen_open : World → Lecturer → LecturerSees
seen_open w l = record (lecturer_sees w l) {
  applicants = map (λ p. (p.key, if is_from_ranking w.phase || is_second w.round then persons (applicants_to w p.key) else []))
      (projects_of w l.row.key);
}

abbrev sight_open : World → Caller → Sight
sight_open w (LecturerCaller l) = sees.Lecturer (seen_open w l)
sight_open w c = sight_of w c

abbrev view_open : World → Key → Sight
view_open w code = sight_open w (caller w code)

abbrev OthersUnseenOpen : Type 0
OthersUnseenOpen =
    (w v : World) (c d : Key) (ask : AbstractCall) (reply : Answer) → Good w → Step w d ask reply v
    → IsMember (view_open w d) → equals d c ≡ false → equals w.office c ≡ false → view_open v c ≡ view_open w c

abbrev ben_lists : AbstractCall
ben_lists = AbstractCall.SetChoices (codes "T" ∷ [])

abbrev listed_again : World
listed_again = changed again (Choices (codes "Z") (codes "T" ∷ []))

ben_steps : Step again (codes "ben-code-2") ben_lists (answer (view again (codes "ben-code-2")) ben_lists)
    listed_again
ben_steps = record { form = tt; told = refl; left = refl }

-- how many applicants the second project has in a lecturer's view
abbrev size_of_second : List (Key × List Person) → ℕ
size_of_second (p ∷ q ∷ ps) = length q.1
size_of_second ps = 0

abbrev at_second : Sight → ℕ
at_second (sees.Lecturer v) = size_of_second v.applicants
at_second _ = 0

pub applicants_while_choosing_are_seen : OthersUnseenOpen → ⊥
applicants_while_choosing_are_seen unseen =
    omega (
      arith,
      ap at_second (unseen again listed_again (codes "lee-code-01")
          (codes "ben-code-2") ben_lists _ again_good ben_steps tt refl refl),
    )

pub list_is_unseen_while_choosing : view listed_again (codes "lee-code-01") ≡ view again (codes "lee-code-01")
list_is_unseen_while_choosing = refl

-- ---- a first result that is shown only once the second is published

abbrev hidden : Phase → Student → Option Key
hidden phase s =
    if is_none s.earlier_placement then (if is_published phase then s.placed else None)
    else (if is_published phase then s.earlier_placement else None)

abbrev sight_hidden : World → Caller → Sight
sight_hidden w (StudentCaller s) = sees.Student (record (student_sees w s) { result = hidden w.phase s })
sight_hidden w c = sight_of w c

abbrev view_hidden : World → Key → Sight
view_hidden w code = sight_hidden w (caller w code)

abbrev HiddenResultsStay : Type 0
HiddenResultsStay =
    (w v : World) (c code : Key) (ask : AbstractCall) (reply : Answer) → Good w → Step w code ask reply v
    → ShowsStill (view_hidden w c) (view_hidden v c)

abbrev opening : AbstractCall
opening = AbstractCall.Move Choosing (Some Second)

office_opens : Step published (codes "office-code-0") opening
    (answer (view published (codes "office-code-0")) opening) again
office_opens = record { form = tt; told = refl; left = refl }

pub hidden_first_result_does_not_stay : HiddenResultsStay → ⊥
hidden_first_result_does_not_stay stay =
    let shown = (stay published again (codes "ann-code-1") (codes "office-code-0") opening _ published_good office_opens).1
    (codes "K") refl in cc

pub first_result_stays : ShowsStill (view published (codes "ann-code-1")) (view again (codes "ann-code-1"))
first_result_stays = (refl, λ p at. at)

-- ---- a first result that the opening drops

abbrev opened_without : World → World
opened_without w = record w {
  round = Second;
  phase = Choosing;
  lecturers = map ranked_before w.lecturers;
  students = map (λ s. record (placed_before s) { earlier_placement = None }) w.students;
}

abbrev KeptWithout : Type 0
KeptWithout = (w : World) → Good w → w.round ≡ First → w.phase ≡ Published → first (opened_without w) ≡ w

pub dropped_first_result_is_not_kept : KeptWithout → ⊥
dropped_first_result_is_not_kept kept = omega (arith, ap (λ w. length (pairs_of w)) (kept published published_good refl refl))

pub first_result_is_kept : first (changed published SecondRound) ≡ published
first_result_is_kept = refl

-- ---- replies whose status tells how many students have a project

pub record StepTelling (old : World) (code : Key) (ask : AbstractCall) (reply : Answer) (new : World) : Type 0 where
  pub form : HasForm ask
  pub told : reply ≡ record (answer (view old code) ask) { status = length (pairs_of new) }
  pub left : StepLeaves old (decision (view old code) ask).act new

abbrev AnswersTelling : World → Request → Wish → Answer → World → Type 0
AnswersTelling old r (Calls ask) reply new = StepTelling old r.code ask reply new
AnswersTelling old r (NoCall refusal) reply new = (reply ≡ refusal) × (new ≡ old)

abbrev RunTelling : World → List Request → List Answer → List World → Type 0
RunTelling w [] [] [] = Unit {0}
RunTelling w (r ∷ rs) (a ∷ answers) (v ∷ worlds) =
    (AnswersTelling w r r.wish a v ⊎ (a ≡ unavailable) × (v ≡ w)) × RunTelling v rs answers worlds
RunTelling w _ _ _ = ⊥

abbrev SameRepliesTelling : Type 0
SameRepliesTelling =
    (c : Key) (w v : World) (asked others : List Request) (told said : List Answer) (after later : List World) (items : List HeardItem)
    → RunTelling w asked told after → AllAnswered told → Heard c w asked after items
    → RunTelling v others said later → AllAnswered said → Heard c v others later items
    → view w c ≡ view v c → replies_to c asked told ≡ replies_to c others said

-- somebody without a code asks who he is
abbrev asks : Request
asks = record { code = []; head = false; closes = false; wish = Calls AbstractCall.Me }

-- the reply to him, with this status
abbrev with_status : ℕ → Answer
with_status n = record (answer (view empty []) AbstractCall.Me) { status = n }

abbrev heard_by_nobody : List HeardItem
heard_by_nobody = Asked false false (Calls AbstractCall.Me) ∷ []

answered : (n : ℕ) → n < 503 → AllAnswered (with_status n ∷ [])
answered n low = ((λ is. omega (arith, low, ap (λ (a : Answer). a.status) is)), tt)

status_of_first : List Answer → ℕ
status_of_first [] = 0
status_of_first (a ∷ answers) = a.status

pub reply_that_tells_the_result_differs : SameRepliesTelling → ⊥
unfolding status_of_first
reply_that_tells_the_result_differs same =
    let alike = same [] published empty (asks ∷ []) (asks ∷ []) (with_status 1 ∷ []) (with_status 0 ∷ []) (published ∷ [])
    (empty ∷ []) heard_by_nobody
    (inl (record { form = tt; told = refl; left = refl }), tt) (answered 1 (omega arith))
    (heard_by_nobody, [], ([], refl, refl), refl, refl)
    (inl (record { form = tt; told = refl; left = refl }), tt) (answered 0 (omega arith))
    (heard_by_nobody, [], ([], refl, refl), refl, refl)
    refl in
    omega (arith, ap status_of_first alike)
