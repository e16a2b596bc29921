-- Decisions, case by case: a fact of each decision follows from the cases that do something.
use Rattle.portal_rules.proofs.Base.{◌≡◌, ℕ, true, false, List, length, Option, Some, None, is_none, Key, is_empty}
use Rattle.portal_rules.proofs.Base.{is_choosing, is_ranking, Setup, Choosing, Ranking, Published, Round, First, Second}
use Rattle.portal_rules.proofs.Base.{LecturerRow, ProjectRow, StudentRow, Choices, Ranks, Lecturers, Projects, Students}
use Rattle.portal_rules.proofs.Base.{To, Fill, SecondRound, StudentSees, LecturerSees, OfficeSees, AbstractCall}
use Rattle.portal_rules.proofs.Base.{projects_body, phase_body, choice_fault, ranking_fault, Took, take_rows}
use Rattle.portal_rules.proofs.Base.{lecturer_roll, project_roll, student_roll, Answer, Said, Decision, Publish}
use Rattle.portal_rules.proofs.Base.{refuses, applies, is_open_to_rolls, to_student, to_lecturer, to_office, Calls}
use Rattle.portal_rules.proofs.Base.{is_move_or_add, arith, students_body, roll_body, filled_body, answered, renders}
use Rattle.portal_rules.specs.declared.decision.Sheet.{Sheet}

-- a list that is taken
abbrev pub Chooses : (AbstractCall → Decision → Type 0) → StudentSees → Type 0
Chooses P v = (list : List Key) → is_choosing v.phase ≡ true → is_none v.result ≡ true → choice_fault v.catalogue list ≡ None
    → P (AbstractCall.SetChoices list) (applies (projects_body list) (Choices v.me.key list))

abbrev pub RanksAll : (AbstractCall → Decision → Type 0) → LecturerSees → Type 0
RanksAll P v = (list : List Key) → is_ranking v.phase ≡ true → ranking_fault v.applicants list ≡ None
    → P (AbstractCall.SetRanking list) (applies (students_body (Some list)) (Ranks v.me.key list))

-- what the office may bring about
pub record Runs (P : AbstractCall → Decision → Type 0) (v : OfficeSees) : Type 0 where
  pub lecturers : (rs new : List LecturerRow) (n : ℕ) → is_open_to_rolls v.round v.phase ≡ true
      → take_rows (lecturer_roll v) 1 v.lecturers rs ≡ Took new n
      → P (AbstractCall.AddLecturers rs) (applies (roll_body (length new) n) (Lecturers new))
  pub projects : (rs new : List ProjectRow) (n : ℕ) → is_open_to_rolls v.round v.phase ≡ true
      → take_rows (project_roll v) 1 v.projects rs ≡ Took new n
      → P (AbstractCall.AddProjects rs) (applies (roll_body (length new) n) (Projects new))
  pub students : (rs new : List StudentRow) (n : ℕ) → is_open_to_rolls v.round v.phase ≡ true
      → take_rows (student_roll v) 1 v.students rs ≡ Took new n
      → P (AbstractCall.AddStudents rs) (applies (roll_body (length new) n) (Students new))
  pub choosing : (named : Option Round) → v.phase ≡ Setup
      → P (AbstractCall.Move Choosing named) (applies (phase_body v.round Choosing) (To Choosing))
  pub ranking : (named : Option Round) → v.phase ≡ Choosing
      → P (AbstractCall.Move Ranking named) (applies (phase_body v.round Ranking) (To Ranking))
  pub published : (named : Option Round) → v.phase ≡ Ranking → is_empty v.still_to_rank ≡ true
      → P (AbstractCall.Move Published named) (record { reply = answered 200 (phase_body v.round Published); act = Publish })
  pub opened : v.round ≡ First → v.phase ≡ Published
      → P (AbstractCall.Move Choosing (Some Second)) (applies (phase_body Second Choosing) SecondRound)
  pub filled : is_ranking v.phase ≡ true → is_empty v.still_to_rank ≡ false
      → P AbstractCall.FillRankings (applies (filled_body v.still_to_rank) Fill)
  pub sheets : (ask : AbstractCall) (text : Said) (sheet : Sheet) → is_move_or_add (Calls ask) ≡ false
      → P ask (renders text sheet)

module _ (P : AbstractCall → Decision → Type 0) (idle : (ask : AbstractCall) (reply : Answer) → P ask (refuses reply)) where
  pub by_student : (v : StudentSees) → Chooses P v → (ask : AbstractCall) → P ask (to_student v ask)
  by_student v chosen ask = grind (arith, idle, chosen)

  pub by_lecturer : (v : LecturerSees) → RanksAll P v → (ask : AbstractCall) → P ask (to_lecturer v ask)
  by_lecturer v ranked ask = grind (arith, idle, ranked)

  pub by_office : (v : OfficeSees) → Runs P v → (ask : AbstractCall) → P ask (to_office v ask)
  by_office v does (AbstractCall.Move phase named) = grind (arith, idle, does.choosing, does.ranking, does.published, does.opened)
  by_office v does (AbstractCall.AddLecturers rs) = grind (arith, idle, does.lecturers)
  by_office v does (AbstractCall.AddProjects rs) = grind (arith, idle, does.projects)
  by_office v does (AbstractCall.AddStudents rs) = grind (arith, idle, does.students)
  by_office v does ask = grind (arith, idle, does.filled, does.sheets)
