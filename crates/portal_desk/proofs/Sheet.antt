-- A decision whose sheet is written is the whole decision.
use Rattle.portal_desk.proofs.Base.{◌≡◌, ℕ, Bool, true, false, List, [], refl, ◌∙◌, ap, Option, Some, None}
use Rattle.portal_desk.proofs.Base.{if◌then◌else◌, AbstractCall, Answer, Nothing, Apply, Decision, decision, is_none}
use Rattle.portal_desk.proofs.Base.{is_empty, is_choosing, is_ranking, is_from_ranking, has_result, Change, Lecturers}
use Rattle.portal_desk.proofs.Base.{Projects, Students, Fill, StudentSees, LecturerSees, OfficeSees, Sight, Said, Json}
use Rattle.portal_desk.proofs.Base.{Unavailable, emptied, open_where, unless_faulty, added, row_fault, already_placed}
use Rattle.portal_desk.proofs.Base.{moves_on, opens, moves_in, moves, publishes, is_open_to_rolls, to_student}
use Rattle.portal_desk.proofs.Base.{to_lecturer, to_office, with_sheet}
use Rattle.serde_json.specs.Data.{Data}
use Rattle.portal_rules.specs.declared.phase.Phase.{Phase}
use Rattle.portal_rules.specs.declared.phase.Phase.TheVariants.{Setup, Choosing, Ranking, Published}
use Rattle.portal_rules.specs.declared.phase.Round.{Round}
use Rattle.portal_rules.specs.declared.phase.Round.TheVariants.{First, Second}
use Rattle.portal_rules.specs.declared.view.View.TheVariants.{Nobody, Office, Lecturer, Student}
use Rattle.portal_rules.specs.Faults.{ListFault, choice_fault, ranking_fault, Taken, Faulty, Took, take_rows}
use Rattle.portal_rules.specs.Faults.{lecturer_roll, project_roll, student_roll}

-- another body than that of 503
abbrev pub IsSaid : Said → Type 0
IsSaid Unavailable = ⊥
IsSaid _ = Unit {0}

-- writing the sheet of what the emptied decision left gives the reply again, which is no 503
abbrev pub IsFilled : Sight → Decision → Type 0
IsFilled v d = (with_sheet v (emptied d).act (emptied d).reply ≡ d.reply) × IsSaid d.reply.body

only_filled : (v : Sight) (b : Bool) (d : Decision) → IsFilled v d → IsFilled v (open_where b d)
only_filled v true d e = e
only_filled (Office o) false d e = (refl, tt)
only_filled _ false d e = (refl, tt)

unless_filled : (v : Sight) (o : Option ListFault) (d : Decision) → IsFilled v d → IsFilled v (unless_faulty o d)
unless_filled v None d e = e
unless_filled (Office o) (Some fault) d e = (refl, tt)
unless_filled _ (Some fault) d e = (refl, tt)

free_filled : (v : Sight) (b : Bool) (d : Decision) → IsFilled v d → IsFilled v (if b then d else already_placed)
free_filled v true d e = e
free_filled (Office o) false d e = (refl, tt)
free_filled _ false d e = (refl, tt)

student_filled : (v : StudentSees) (ask : AbstractCall) → IsFilled (Student v) (to_student v ask)
student_filled v (AbstractCall.SetChoices list) =
    only_filled (Student v) (is_choosing v.phase) _
    (free_filled (Student v) (is_none v.result) _ (unless_filled (Student v) (choice_fault v.catalogue list) _ (refl, tt)))
student_filled v AbstractCall.Result = only_filled (Student v) (has_result v.round v.phase) _ (refl, tt)
student_filled v _ = (refl, tt)

lecturer_filled : (v : LecturerSees) (ask : AbstractCall) → IsFilled (Lecturer v) (to_lecturer v ask)
lecturer_filled v AbstractCall.Applicants = only_filled (Lecturer v) (is_from_ranking v.phase) _ (refl, tt)
lecturer_filled v AbstractCall.ShowRanking = only_filled (Lecturer v) (is_from_ranking v.phase) _ (refl, tt)
lecturer_filled v (AbstractCall.SetRanking list) =
    only_filled (Lecturer v) (is_ranking v.phase) _ (unless_filled (Lecturer v) (ranking_fault v.applicants list) _ (refl, tt))
lecturer_filled v AbstractCall.Result = only_filled (Lecturer v) (has_result v.round v.phase) _ (refl, tt)
lecturer_filled v _ = (refl, tt)

idle_or_applied : (v : OfficeSees) (b : Bool) (body : Data) (change : Change)
    → IsFilled (Office v) (record {
      reply = record { status = 200; allow = []; body = Json body };
      act = if b then Nothing else Apply change;
    })
idle_or_applied v true body change = (refl, tt)
idle_or_applied v false body change = (refl, tt)

row_said : (status : ℕ) (word : List ℕ) (row : Option ℕ) → IsSaid (row_fault status word row).body
row_said status word None = tt
row_said status word (Some n) = tt

added_filled : {X : Type 0} (v : OfficeSees) (change : List X → Change) (t : Taken X)
    → IsFilled (Office v) (added change t)
added_filled v change (Faulty fault) = (refl, row_said fault.status fault.word fault.row)
added_filled v change (Took new same) = idle_or_applied v (is_empty new) _ (change new)

publishes_filled : (v : OfficeSees) (b : Bool) → is_empty v.still_to_rank ≡ b → IsFilled (Office v) (publishes v)
publishes_filled v true e = rw e (refl, tt)
publishes_filled v false e = rw e (refl, tt)

moved_filled : (v : OfficeSees) (old new : Phase) → IsFilled (Office v) (moves_on v old new)
moved_filled v Ranking Published = publishes_filled v (is_empty v.still_to_rank) refl
moved_filled v Setup Setup = (refl, tt)
moved_filled v Choosing Choosing = (refl, tt)
moved_filled v Published Published = (refl, tt)
moved_filled v _ _ = (refl, tt)

opens_filled : (v : OfficeSees) (old new : Phase) → IsFilled (Office v) (opens old new)
opens_filled v Published Choosing = (refl, tt)
opens_filled v _ _ = (refl, tt)

named_filled : (v : OfficeSees) (old new : Round) (phase : Phase) → IsFilled (Office v) (moves_in v old new phase)
named_filled v First First phase = moved_filled v v.phase phase
named_filled v Second Second phase = moved_filled v v.phase phase
named_filled v First Second phase = opens_filled v v.phase phase
named_filled v Second First phase = (refl, tt)

moves_filled : (v : OfficeSees) (phase : Phase) (round : Option Round) → IsFilled (Office v) (moves v phase round)
moves_filled v phase None = moved_filled v v.phase phase
moves_filled v phase (Some round) = named_filled v v.round round phase

office_filled : (v : OfficeSees) (ask : AbstractCall) → IsFilled (Office v) (to_office v ask)
office_filled v (AbstractCall.AddLecturers rows) =
    only_filled (Office v) (is_open_to_rolls v.round v.phase) _ (added_filled v Lecturers (take_rows (lecturer_roll v) 1 v.lecturers rows))
office_filled v (AbstractCall.AddProjects rows) =
    only_filled (Office v) (is_open_to_rolls v.round v.phase) _ (added_filled v Projects (take_rows (project_roll v) 1 v.projects rows))
office_filled v (AbstractCall.AddStudents rows) =
    only_filled (Office v) (is_open_to_rolls v.round v.phase) _ (added_filled v Students (take_rows (student_roll v) 1 v.students rows))
office_filled v (AbstractCall.Move phase round) = moves_filled v phase round
office_filled v AbstractCall.Allocation = only_filled (Office v) (has_result v.round v.phase) _ (refl, tt)
office_filled v AbstractCall.AllocationCsv = only_filled (Office v) (has_result v.round v.phase) _ (refl, tt)
office_filled v AbstractCall.Report = only_filled (Office v) (has_result v.round v.phase) _ (refl, tt)
office_filled v AbstractCall.FillRankings =
    only_filled (Office v) (is_ranking v.phase) _ (idle_or_applied v (is_empty v.still_to_rank) _ Fill)
office_filled v _ = (refl, tt)

pub decision_filled : (v : Sight) (ask : AbstractCall) → IsFilled v (decision v ask)
decision_filled Nobody ask = (refl, tt)
decision_filled (Office v) ask = office_filled v ask
decision_filled (Lecturer v) ask = lecturer_filled v ask
decision_filled (Student v) ask = student_filled v ask

-- what is decided once the sheet is written
pub whole_decision : (v : Sight) (ask : AbstractCall) (d e : Decision) (reply : Answer) → d ≡ emptied (decision v ask)
    → reply ≡ with_sheet v d.act d.reply → e ≡ record { reply = reply; act = d.act } → e ≡ decision v ask
whole_decision v ask d e reply is told made =
    made ∙ (ap (λ r. record { reply = r; act = d.act })
    (told ∙ ap (λ (x : Decision). with_sheet v x.act x.reply) is ∙ (decision_filled v ask).0)
    ∙ ap (λ (x : Decision). record { reply = (decision v ask).reply; act = x.act }) is)
