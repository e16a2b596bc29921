-- The reply to a call, and its act. Both depend only on the caller's view and the call.
use Rattle.portal_rules.specs.Base.{Data, string, Phase, Setup, Choosing, Ranking, Published, Round, First, Second}
use Rattle.std.specs.Prelude.{◌≡◌, ℕ, Bool, false, not, if◌then◌else◌, codes, List, [], ◌∷◌, length, Option, Some, None}
use Rattle.std.specs.Prelude.{is_none}
use Rattle.serde_json.specs.Written.{has_float}
use Rattle.portal_rules.specs.Words.{Key, is_empty}
use Rattle.portal_rules.specs.World.{is_choosing, is_ranking, is_from_ranking, has_result, Change, Choices, Ranks}
use Rattle.portal_rules.specs.World.{Lecturers, Projects, Students, To, Fill, SecondRound}
use Rattle.portal_rules.specs.Calls.{StudentSees, LecturerSees, OfficeSees, AbstractCall}
use Rattle.portal_rules.specs.declared.view.View.{View as Sight}
use Rattle.portal_rules.specs.declared.view.View.TheVariants.{Nobody, Office, Lecturer, Student}
use Rattle.portal_rules.specs.declared.decision.Sheet.{Sheet}
use Rattle.portal_rules.specs.declared.decision.Sheet.TheVariants as sheet
use Rattle.portal_rules.specs.Bodies.{dictionary, texts, count, fault_body, catalogue_body, projects_body, students_body}
use Rattle.portal_rules.specs.Bodies.{applicants_body, placed_body, project_body, phase_body, student_me, lecturer_me}
use Rattle.portal_rules.specs.Bodies.{office_me, roll_body, status_body, allocation_body, filled_body, csv_text}
use Rattle.portal_rules.specs.Bodies.{result_text}
use Rattle.portal_rules.specs.Faults.{ListFault, choice_fault, ranking_fault, Taken, Faulty, Took, take_rows}
use Rattle.portal_rules.specs.Faults.{lecturer_roll, project_roll, student_roll}

pub data Said : Type 0 where
  Json : Data → Said
  Csv : List ℕ → Said
  Plain : List ℕ → Said
  Unavailable : Said

-- a reply; if the path does not take the method, `allow` lists those that it takes
pub record Answer : Type 0 where
  pub status : ℕ
  pub allow : List ℕ
  pub body : Said

-- what a call does; rendering a sheet of the result changes nothing
pub data Act : Type 0 where
  Nothing : Act
  Apply : Change → Act
  Publish : Act
  Render : Sheet → Act

pub record Decision : Type 0 where
  pub reply : Answer
  pub act : Act

abbrev pub answered : ℕ → Data → Answer
answered status body = record { status = status; allow = []; body = Json body }

abbrev pub shows : Data → Decision
shows body = record { reply = answered 200 body; act = Nothing }

abbrev pub applies : Data → Change → Decision
applies body change = record { reply = answered 200 body; act = Apply change }

abbrev pub renders : Said → Sheet → Decision
renders text sheet = record { reply = record { status = 200; allow = []; body = text }; act = Render sheet }

abbrev pub refuses : Answer → Decision
refuses answer = record { reply = answer; act = Nothing }

-- a refusal whose body is only an error word
abbrev pub by_word : ℕ → List ℕ → Answer
by_word status word = answered status (fault_body word None)

abbrev pub no_caller : Decision
no_caller = refuses (by_word 403 (codes "no_caller"))

abbrev pub not_yours : Decision
not_yours = refuses (by_word 403 (codes "not_yours"))

abbrev pub wrong_phase : Decision
wrong_phase = refuses (by_word 409 (codes "wrong_phase"))

-- a call that only some phases allow
abbrev pub open_where : Bool → Decision → Decision
open_where now d = if now then d else wrong_phase

abbrev pub bad_list : ListFault → Answer
bad_list fault =
    answered 422 (dictionary ((codes "at", count fault.at)
    ∷ (codes "error", string (codes "bad_list")) ∷ (codes "fault", string fault.word) ∷ []))

-- a list is accepted if it has no fault
abbrev pub unless_faulty : Option ListFault → Decision → Decision
unless_faulty None d = d
unless_faulty (Some fault) d = refuses (bad_list fault)

-- a student with a project of the first round submits no list in the second
abbrev pub already_placed : Decision
already_placed = refuses (by_word 409 (codes "already_placed"))

-- replies to a student

abbrev pub to_student : StudentSees → AbstractCall → Decision
to_student v AbstractCall.Me = shows (student_me v)
to_student v AbstractCall.Catalogue = shows (catalogue_body v.catalogue)
to_student v AbstractCall.ShowChoices = shows (projects_body v.choices)
to_student v (AbstractCall.SetChoices list) =
    open_where (is_choosing v.phase) (
    if is_none v.result
    then unless_faulty (choice_fault v.catalogue list) (applies (projects_body list) (Choices v.me.key list))
    else already_placed)
to_student v AbstractCall.Result = open_where (has_result v.round v.phase) (shows (project_body v.result))
to_student v _ = not_yours

-- replies to a lecturer

abbrev pub to_lecturer : LecturerSees → AbstractCall → Decision
to_lecturer v AbstractCall.Me = shows (lecturer_me v)
to_lecturer v AbstractCall.Catalogue = shows (catalogue_body v.catalogue)
to_lecturer v AbstractCall.Applicants = open_where (is_from_ranking v.phase) (shows (applicants_body v.applicants))
to_lecturer v AbstractCall.ShowRanking = open_where (is_from_ranking v.phase) (shows (students_body v.ranking))
to_lecturer v (AbstractCall.SetRanking list) =
    open_where (is_ranking v.phase) (
    unless_faulty (ranking_fault v.applicants list) (applies (students_body (Some list)) (Ranks v.me.key list)))
to_lecturer v AbstractCall.Result = open_where (has_result v.round v.phase) (shows (placed_body v.placed))
to_lecturer v _ = not_yours

-- replies to the office

-- rolls are open in the first round, before ranking
abbrev pub is_open_to_rolls : Round → Phase → Bool
is_open_to_rolls First phase = not (is_from_ranking phase)
is_open_to_rolls Second phase = false

abbrev pub row_fault : ℕ → List ℕ → Option ℕ → Answer
row_fault status word row = answered status (fault_body word row)

-- if no row is new, there is nothing to do
abbrev pub added : {X : Type 0} → (List X → Change) → Taken X → Decision
added change (Faulty fault) = refuses (row_fault fault.status fault.word fault.row)
added change (Took new same) =
    record {
      reply = answered 200 (roll_body (length new) same);
      act = if is_empty new then Nothing else Apply (change new);
    }

abbrev pub still_to_rank : List Key → Answer
still_to_rank keys =
    answered 409 (dictionary ((codes "error", string (codes "still_to_rank")) ∷ (codes "lecturers", texts keys) ∷ []))

-- the reply does not depend on the result that is published
abbrev pub publishes : OfficeSees → Decision
publishes v =
    if is_empty v.still_to_rank then record { reply = answered 200 (phase_body v.round Published); act = Publish }
    else refuses (still_to_rank v.still_to_rank)

-- moves to the round's next phase, or to the current one, which changes nothing
abbrev pub moves_on : OfficeSees → Phase → Phase → Decision
moves_on v Setup Setup = shows (phase_body v.round Setup)
moves_on v Setup Choosing = applies (phase_body v.round Choosing) (To Choosing)
moves_on v Choosing Choosing = shows (phase_body v.round Choosing)
moves_on v Choosing Ranking = applies (phase_body v.round Ranking) (To Ranking)
moves_on v Ranking Ranking = shows (phase_body v.round Ranking)
moves_on v Ranking Published = publishes v
moves_on v Published Published = shows (phase_body v.round Published)
moves_on v _ _ = wrong_phase

-- the second round opens, with choosing, once the first is published
abbrev pub opens : Phase → Phase → Decision
opens Published Choosing = applies (phase_body Second Choosing) SecondRound
opens _ _ = wrong_phase

-- a named round is the current one, or the second, which opens only by its name
abbrev pub moves_in : OfficeSees → Round → Round → Phase → Decision
moves_in v First First phase = moves_on v v.phase phase
moves_in v Second Second phase = moves_on v v.phase phase
moves_in v First Second phase = opens v.phase phase
moves_in v Second First phase = wrong_phase

-- a move that names no round is one in the current round
abbrev pub moves : OfficeSees → Phase → Option Round → Decision
moves v phase None = moves_on v v.phase phase
moves v phase (Some round) = moves_in v v.round round phase

-- each lecturer with a missing ranking gets one; if none is missing, there is nothing to do
abbrev pub fills : OfficeSees → Decision
fills v =
    record {
      reply = answered 200 (filled_body v.still_to_rank);
      act = if is_empty v.still_to_rank then Nothing else Apply Fill;
    }

abbrev pub to_office : OfficeSees → AbstractCall → Decision
to_office v AbstractCall.Me = shows (office_me v)
to_office v AbstractCall.Catalogue = shows (catalogue_body v.catalogue)
to_office v (AbstractCall.AddLecturers rows) =
    open_where (is_open_to_rolls v.round v.phase) (added Lecturers (take_rows (lecturer_roll v) 1 v.lecturers rows))
to_office v (AbstractCall.AddProjects rows) =
    open_where (is_open_to_rolls v.round v.phase) (added Projects (take_rows (project_roll v) 1 v.projects rows))
to_office v (AbstractCall.AddStudents rows) =
    open_where (is_open_to_rolls v.round v.phase) (added Students (take_rows (student_roll v) 1 v.students rows))
to_office v (AbstractCall.Move phase round) = moves v phase round
to_office v AbstractCall.Status = shows (status_body v)
to_office v AbstractCall.Allocation = open_where (has_result v.round v.phase) (shows (allocation_body v.pairs))
to_office v AbstractCall.AllocationCsv = open_where (has_result v.round v.phase) (renders (Csv (csv_text v)) sheet.Csv)
to_office v AbstractCall.Report = open_where (has_result v.round v.phase) (renders (Plain (result_text v)) sheet.Report)
to_office v AbstractCall.FillRankings = open_where (is_ranking v.phase) (fills v)
to_office v _ = not_yours

-- replies to any caller

abbrev pub decision : Sight → AbstractCall → Decision
decision Nobody ask = no_caller
decision (Office v) ask = to_office v ask
decision (Lecturer v) ask = to_lecturer v ask
decision (Student v) ask = to_student v ask

abbrev pub answer : Sight → AbstractCall → Answer
answer v ask = (decision v ask).reply

-- a decision before its sheet is written: the text is empty
abbrev pub blank : Sheet → Said
blank sheet.Csv = Csv []
blank sheet.Report = Plain []

abbrev pub unwritten : Act → Said → Said
unwritten (Render sheet) text = blank sheet
unwritten act text = text

abbrev pub emptied : Decision → Decision
emptied d = record d { reply = record d.reply { body = unwritten d.act d.reply.body } }

-- a JSON body has whole numbers only
abbrev pub HasWholeNumbers : Said → Type 0
HasWholeNumbers (Json body) = has_float body ≡ false
HasWholeNumbers _ = Unit {0}

-- the view with the caller's own change in it
abbrev pub with_own : Sight → Act → Sight
with_own (Student v) (Apply (Choices k list)) = Student (record v { choices = list })
with_own (Lecturer v) (Apply (Ranks k list)) = Lecturer (record v { ranking = Some list })
with_own (Office v) (Apply Fill) = Office (record v { still_to_rank = [] })
with_own v _ = v

-- the caller's view after a call that changes nothing else in it
abbrev pub own : Sight → AbstractCall → Sight
own v ask = with_own v (decision v ask).act
