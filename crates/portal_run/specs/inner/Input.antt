-- What the first line of an input gives, and what a command finds at a path.
use Rattle.std.specs.Prelude.{◌≡◌, ◌⊎◌, ℕ, Option, None, Result, Ok, Err, false}
use Rattle.sqlite.specs.declared.error.Error.{Error}
use Rattle.sqlite.specs.declared.error.Error.TheVariants.{SqliteFailure}
use Rattle.sqlite.specs.declared.error.ErrorCode.TheVariants.{OutOfMemory}
use Rattle.std.specs.Io.KnownBytes.{Appends}
use Rattle.portal_answer.specs.Answer.{Text}
use Rattle.portal_rules.specs.Words.{Key, is_code}
use Rattle.portal_store.specs.declared.store.UpgradeFault.{UpgradeFault}
use Rattle.portal_store.specs.declared.store.UpgradeFault.TheVariants.{Store, Memory}
use Rattle.portal_run.specs.declared.init.NoCode.{NoCode}
use Rattle.portal_run.specs.declared.init.NoCode.TheVariants.{Bad}
use Rattle.portal_run.specs.declared.place.Place.{Place}
use Rattle.portal_desk.specs.declared.served.Cause.{Cause}
use Rattle.portal_desk.specs.declared.served.Cause.TheVariants as cause
use Rattle.portal_serve.specs.declared.server.Hall.{Hall}
use Rattle.portal_serve.specs.declared.server.Ended.TheVariants.{Full}
use Rattle.portal_run.specs.Databases.{IsUnheard, MayStop, end_said, first_line}
use Rattle.portal_run.specs.Lines.{Says, fault}
use Rattle.portal_run.specs.inner.Taken.{AppendsFront}

-- the code is the first line, or that is none
abbrev pub IsCodeIn : Text → Result Key NoCode → Type 0
IsCodeIn input (Ok code) = code ≡ first_line input
IsCodeIn input (Err Bad) = is_code (first_line input) ≡ false
IsCodeIn input (Err _) = Unit {0}

-- why no file was opened
abbrev pub connect_refusal : Error → UpgradeFault
connect_refusal (SqliteFailure OutOfMemory) = Memory
connect_refusal _ = Store

-- what stands there is not refused, or the command stops
abbrev pub Expects : {A : Type 0} → (Place → Type 0) → (Place → Option UpgradeFault) → Result A UpgradeFault → Type 0
Expects Stands refuses (Ok x) = (place : Place) × Stands place × (refuses place ≡ None)
Expects Stands refuses (Err why) = MayStop Stands refuses why

-- the end of listening is told, unless memory ran out for the line
abbrev pub SaysEnd : Result Hall Cause → ℕ → Option Text → Option Text → Type 0
SaysEnd ended status old new =
    Says (end_said ended) status old new
    ⊎ ((hall : Hall) × (ended ≡ Ok hall) × (hall.ended ≡ Full) × Says (fault cause.Memory) status old new)

-- a line was written, or a beginning of it
abbrev pub Writes : Result (Unit {0}) Cause → Option Text → Option Text → Text → Type 0
Writes (Ok x) old new line = Appends old new line
Writes (Err found) old new line = AppendsFront old new line × IsUnheard (Err found)
