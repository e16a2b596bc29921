-- What a call that is played over a keeper may do.
use Rattle.std.specs.Prelude.{◌≡◌, ℕ, List, Option}
use Rattle.spa_model.specs.Spa.{Spa, IsBest}
use Rattle.portal_rules.specs.Words.{Key}
use Rattle.portal_rules.specs.World.{World, changed}
use Rattle.portal_rules.specs.Bodies.{csv_text, result_text}
use Rattle.portal_rules.specs.Calls.{OfficeSees}
use Rattle.portal_rules.specs.declared.view.View.{View as Sight}
use Rattle.portal_rules.specs.declared.view.View.TheVariants.{Office}
use Rattle.portal_rules.specs.declared.decision.Sheet.{Sheet}
use Rattle.portal_rules.specs.declared.decision.Sheet.TheVariants as sheet
use Rattle.portal_rules.specs.inner.Room.{pairs_by}
use Rattle.portal_rules.specs.Answer.{Answer, Said, Csv, Plain, Act, Nothing, Apply, Publish, Render}
use Rattle.portal_rules.specs.Good.{Good, CanPublish}

-- an act that leaves a good world
abbrev pub CanDo : World → Act → Type 0
CanDo w Nothing = Unit {0}
CanDo w (Apply change) = Good (changed w change)
CanDo w Publish = CanPublish w
CanDo w (Render sheet) = Unit {0}

-- the pairs are those of the best matching
abbrev pub IsSolved : Spa → List (Key × Key) → Type 0
IsSolved i pairs =
    (places : List (Option ℕ)) × IsBest i places × (pairs ≡ pairs_by i.student_keys i.project_keys places)

-- the text of a sheet
abbrev pub sheet_text : OfficeSees → Sheet → Said
sheet_text v sheet.Csv = Csv (csv_text v)
sheet_text v sheet.Report = Plain (result_text v)

-- the reply with its sheet written, where the office is given one
abbrev pub with_sheet : Sight → Act → Answer → Answer
with_sheet (Office v) (Render sheet) reply = record reply { body = sheet_text v sheet }
with_sheet v act reply = reply
