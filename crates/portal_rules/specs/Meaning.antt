-- The meaning of calls, changes, replies and decisions of the code.
use Rattle.std.specs.Prelude.{ℕ, List, Vec, map}
use Rattle.std.specs.declared.alloc.Global.{Global}
use Rattle.serde_json.specs.View as json
use Rattle.portal_rules.specs.declared.decision.Call.{Call}
use Rattle.portal_rules.specs.declared.decision.Call.TheVariants as call
use Rattle.portal_rules.specs.declared.decision.Body.{Body}
use Rattle.portal_rules.specs.declared.decision.Body.TheVariants as body
use Rattle.portal_rules.specs.declared.decision.Reply.{Reply}
use Rattle.portal_rules.specs.declared.decision.Change as made
use Rattle.portal_rules.specs.declared.decision.Change.TheVariants as change
use Rattle.portal_rules.specs.declared.decision.Act as done
use Rattle.portal_rules.specs.declared.decision.Act.TheVariants as act
use Rattle.portal_rules.specs.declared.decision.Decision as taken
use Rattle.portal_rules.specs.World.{Change, Choices, Ranks, Lecturers, Projects, Students, To, Placements, Fill}
use Rattle.portal_rules.specs.World.{SecondRound}
use Rattle.portal_rules.specs.Calls.{AbstractCall}
use Rattle.portal_rules.specs.Answer.{Answer, Said, Json, Csv, Plain, Unavailable, Act, Nothing, Apply, Publish, Render}
use Rattle.portal_rules.specs.Answer.{Decision}

-- the texts of a list as they were received
abbrev pub texts_of : List (Vec ℕ Global) → List (List ℕ)
texts_of list = map (λ t. t.items) list

abbrev pub call_model : Call → AbstractCall
call_model call.Me = AbstractCall.Me
call_model call.Catalogue = AbstractCall.Catalogue
call_model call.ShowChoices = AbstractCall.ShowChoices
call_model (call.SetChoices list) = AbstractCall.SetChoices (texts_of list.items)
call_model call.Applicants = AbstractCall.Applicants
call_model call.ShowRanking = AbstractCall.ShowRanking
call_model (call.SetRanking list) = AbstractCall.SetRanking (texts_of list.items)
call_model call.Result = AbstractCall.Result
call_model (call.AddLecturers rows) = AbstractCall.AddLecturers rows.items
call_model (call.AddProjects rows) = AbstractCall.AddProjects rows.items
call_model (call.AddStudents rows) = AbstractCall.AddStudents rows.items
call_model (call.Move phase round) = AbstractCall.Move phase round
call_model call.Status = AbstractCall.Status
call_model call.Allocation = AbstractCall.Allocation
call_model call.AllocationCsv = AbstractCall.AllocationCsv
call_model call.Report = AbstractCall.Report
call_model call.FillRankings = AbstractCall.FillRankings

abbrev pub body_model : Body → Said
body_model (body.Json value) = Json (json.view value)
body_model (body.Csv bytes) = Csv bytes.items
body_model (body.Plain bytes) = Plain bytes.items
body_model body.Unavailable = Unavailable

abbrev pub reply_model : Reply → Answer
reply_model r = record { status = r.status; allow = r.allow.now; body = body_model r.body }

abbrev pub change_model : made.Change → Change
change_model (change.Choices student projects) = Choices student projects.items
change_model (change.Ranking lecturer students) = Ranks lecturer students.items
change_model (change.Lecturers rows) = Lecturers rows.items
change_model (change.Projects rows) = Projects rows.items
change_model (change.Students rows) = Students rows.items
change_model (change.Phase phase) = To phase
change_model (change.Result pairs) = Placements pairs.items
change_model change.Fill = Fill
change_model change.SecondRound = SecondRound

abbrev pub act_model : done.Act → Act
act_model act.Nothing = Nothing
act_model (act.Apply change) = Apply (change_model change)
act_model act.Publish = Publish
act_model (act.Render sheet) = Render sheet

abbrev pub decision_model : taken.Decision → Decision
decision_model d = record { reply = reply_model d.reply; act = act_model d.act }
