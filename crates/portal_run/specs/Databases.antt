-- What a command over a database does, and what it says of that.
use Rattle.std.specs.Prelude.{◌≡◌, ◌⊎◌, ◌==◌, ◌∷◌, ℕ, List, [], Option, Some, None, Result, Ok, Err, Vec, IfSome, OnOk, codes}
use Rattle.std.specs.Prelude.{cond, false, take}
use Rattle.std.specs.List.{before_first}
use Rattle.std.specs.declared.alloc.Global.{Global}
use Rattle.std.specs.Io.KnownBytes.{Appends}
use Rattle.portal_answer.specs.Answer.{Text, Output}
use Rattle.portal_rules.specs.Words.{Key, is_code}
use Rattle.portal_rules.specs.declared.keeper.KeepFault.{KeepFault}
use Rattle.portal_rules.specs.declared.keeper.KeepFault.TheVariants as keeping
use Rattle.portal_desk.specs.declared.served.Cause.{Cause}
use Rattle.portal_desk.specs.declared.served.Cause.TheVariants as cause
use Rattle.portal_desk.specs.declared.served.Served.{Served}
use Rattle.portal_desk.specs.declared.served.ServeFault.{ServeFault}
use Rattle.portal_serve.specs.Hall.{CountsOutcomes}
use Rattle.portal_serve.specs.declared.server.Outcome.{Outcome}
use Rattle.portal_serve.specs.declared.server.Hall.{Hall}
use Rattle.portal_serve.specs.declared.server.Ended.{Ended}
use Rattle.portal_serve.specs.declared.server.Ended.TheVariants.{Full, StoreFault, ListenFault}
use Rattle.portal_store.specs.declared.store.CreateFault.{CreateFault}
use Rattle.portal_store.specs.declared.store.CreateFault.TheVariants as creating
use Rattle.portal_store.specs.declared.store.OpenFault.{OpenFault}
use Rattle.portal_store.specs.declared.store.UpgradeFault.{UpgradeFault}
use Rattle.portal_store.specs.declared.store.UpgradeFault.TheVariants.{NotPortal, Exists, Store, Memory}
use Rattle.portal_store.specs.Crash.{as_upgrading}
use Rattle.portal_file.specs.Tables.{FileEffect}
use Rattle.portal_file.specs.Jobs.{Devices, MakesTables, PipesStream, ReportsWorld, ServesRequests, UpgradesTables}
use Rattle.portal_words.specs.declared.command.Command.{Command}
use Rattle.portal_words.specs.declared.command.Command.TheVariants as command
use Rattle.portal_run.specs.declared.place.Place.{Place}
use Rattle.portal_run.specs.declared.place.Place.TheVariants.{Missing, Empty, Database, Other}
use Rattle.portal_run.specs.Lines.{Says, bad_code, fault, hall_line, listening_line, refusal, success}

-- of the databases of a machine: what may stand at a path, and what was done over the database there
pub record Known : Type 1 where
  pub stands : Text → Place → Type 0
  pub over : Text → (FileEffect → Type 0) → Type 0

-- the same of these databases
abbrev pub known : {F C : Type 0} → (F → Text → Place → Type 0) → (F → Text → C → (FileEffect → Type 0) → Type 0) → F → Known
known {F} {C} stands over files = record {
  stands = stands files;
  over = λ path Does. (closed : C) × over files path closed Does;
}

-- a command's work over a database
pub record Job (R : Type 0) : Type 1 where
  -- why it refuses what stands at the path, if it does
  pub refuses : Place → Option UpgradeFault
  -- what is done, with this result
  pub does : R → FileEffect → Type 0
  -- what the output then holds, if that is known
  pub held : R → Option Text
  -- what is said of the result
  pub says : R → Output

-- why a command stops before its work: the store or memory failed, or it refuses what stands there
abbrev pub MayStop : (Place → Type 0) → (Place → Option UpgradeFault) → UpgradeFault → Type 0
MayStop Stands refuses why =
    ((why ≡ Store) ⊎ (why ≡ Memory)) ⊎ ((place : Place) × Stands place × (refuses place ≡ Some why))

-- a command did its work over the database at a path, and said what came of it
pub record Works {R : Type 0} (known : Known) (path : Text) (job : Job R) (status : ℕ) (new : Option Text) : Type 0 where
  -- what stands there is not refused
  pub place : Place
  pub stands : known.stands path place
  pub taken : job.refuses place ≡ None
  -- the work was done over it, with some result
  pub result : R
  pub did : known.over path (job.does result)
  -- line and status tell this result
  pub says : Says (job.says result) status (job.held result) new

-- a command did that, or stopped before, and line and status tell why
abbrev pub Performs : {R : Type 0} → Known → Text → Job R → ℕ → Option Text → Option Text → Type 0
Performs known path job status old new =
    ((why : UpgradeFault) × MayStop (known.stands path) job.refuses why × Says (refusal why) status old new)
    ⊎ Works known path job status new

-- what is said of a success, or of a refusal
abbrev pub said_of : {A E : Type 0} → (A → Output) → (E → UpgradeFault) → Result A E → Output
said_of done why (Ok x) = done x
said_of done why (Err found) = refusal (why found)

-- what the output holds after the work: what it held before, if the tables were refused
abbrev pub after : {A E : Type 0} → Option Text → Result A E → Option Text → Option Text
after old (Ok x) new = new
after old (Err found) new = old

-- a file is needed that begins as a database does
abbrev pub unless_database : Place → Option UpgradeFault
unless_database Missing = Some NotPortal
unless_database Empty = Some NotPortal
unless_database Database = None
unless_database Other = Some Store

-- a database, or room for one, is needed
abbrev pub unless_room : Place → Option UpgradeFault
unless_room Other = Some Store
unless_room _ = None

-- why no tables were made
abbrev pub create_refusal : CreateFault → UpgradeFault
create_refusal creating.Exists = Exists
create_refusal creating.Store = Store
create_refusal creating.Memory = Memory

-- what failed as the report was made
abbrev pub cause_of : KeepFault → Cause
cause_of keeping.Store = cause.Store
cause_of keeping.Memory = cause.Memory

-- `init` with this office code
abbrev pub making : {A : Type 0} → Key → Option Text → Job (Result A CreateFault)
making office old = record {
  refuses = unless_room;
  does = MakesTables office;
  held = λ _. old;
  says = said_of (λ _. success (codes "made\n")) create_refusal;
}

-- `upgrade`
abbrev pub upgrading : {A : Type 0} → Option Text → Job (Result A UpgradeFault)
upgrading old = record {
  refuses = unless_database;
  does = UpgradesTables;
  held = λ _. old;
  says = said_of (λ _. success (codes "upgraded\n")) (λ why. why);
}

-- the text of the report, or why there is none
abbrev pub report_said : Result (Vec ℕ Global) KeepFault → Output
report_said (Ok text) = success text.items
report_said (Err found) = fault (cause_of found)

-- `report`
abbrev pub reporting : Option Text → Job (Result (Result (Vec ℕ Global) KeepFault) OpenFault)
reporting old = record {
  refuses = unless_database;
  does = ReportsWorld;
  held = λ _. old;
  says = said_of report_said as_upgrading;
}

-- no line, or why the connection ended early
abbrev pub stream_said : Result Served ServeFault → Output
stream_said (Ok served) = success []
stream_said (Err found) = fault found.cause

-- `pipe` with this input and output: its result, and the writer, which then holds so much
abbrev pub piping : {V : Type 0} → (V → Option Text) → Devices → Job (Result (Result Served ServeFault) OpenFault × V)
piping held ends = record {
  refuses = unless_database;
  does = λ r. PipesStream r.0 (record ends { after = held r.1 });
  held = λ r. after ends.before r.0 (held r.1);
  says = λ r. said_of stream_said as_upgrading r.0;
}

-- a hall counts its outcomes, as many as were asked for if it is full
pub record CountsUpTo (most : ℕ) (hall : Hall) : Type 0 where
  pub outcomes : List Outcome
  pub counts : CountsOutcomes hall outcomes
  pub full : hall.ended ≡ Full → hall.accepted ≡ most

-- this hall is the end of listening, or memory ran out for its line
abbrev pub IsEndOf : Hall → Result Hall Cause → Type 0
IsEndOf hall (Ok last) = last ≡ hall
IsEndOf hall (Err cause.Memory) = hall.ended ≡ Full
IsEndOf hall (Err _) = ⊥

-- no connection was served, for another fault than the store's
abbrev pub IsUnheard : Result Hall Cause → Type 0
IsUnheard (Ok hall) = ⊥
IsUnheard (Err cause.Store) = ⊥
IsUnheard (Err _) = Unit {0}

-- the port was told, and up to so many connections were served; or a beginning of that line was written
abbrev pub Listens : ℕ → ℕ → Option Text → Option Text → Result Hall Cause → Type 0
Listens port most old new ended =
    (Appends old new (listening_line port) × (hall : Hall) × CountsUpTo most hall × IsEndOf hall ended)
    ⊎ ((n : ℕ) × Appends old new (take n (listening_line port)) × IsUnheard ended)

-- what comes of serving a port: the tables were opened or refused, what the output holds at the end
-- of listening, and how that ended
pub record Listened (port most : ℕ) (old : Option Text) : Type 0 where
  pub opened : Result (Unit {0}) OpenFault
  pub held : Option Text
  pub ended : Result Hall Cause
  pub listens : OnOk opened (Listens port most old held ended)

-- this line, or why no more connections were served
abbrev pub hall_said : Ended → Text → Output
hall_said Full line = success line
hall_said StoreFault line = fault cause.Store
hall_said ListenFault line = fault cause.Read

-- how listening ended
abbrev pub end_said : Result Hall Cause → Output
end_said (Ok hall) = hall_said hall.ended (hall_line hall)
end_said (Err found) = fault found

-- `serve` of up to so many connections on this port
abbrev pub serving : (port most : ℕ) (old : Option Text) → Job (Listened port most old)
serving port most old = record {
  refuses = unless_database;
  does = λ r. ServesRequests r.opened (λ _. Unit {0});
  held = λ r. after old r.opened r.held;
  says = λ r. said_of (λ _. end_said r.ended) as_upgrading r.opened;
}

-- a line without the carriage return at its end
abbrev pub without_return : Text → Text
without_return [] = []
without_return (b ∷ []) = cond (b == 13) [] (b ∷ [])
without_return (b ∷ c ∷ line) = b ∷ without_return (c ∷ line)

-- the first line of an input, without its end
abbrev pub first_line : Text → Text
first_line input = without_return (before_first (λ b. b == 10) input)

-- `init`: the first line is the office's code, with which the tables are made; or it is none, or
-- could not be read
abbrev pub Inits : Known → Text → Option Text → ℕ → Option Text → Option Text → Type 0
Inits known path input status old new =
    ((office : Key) × IfSome input (λ bytes. office ≡ first_line bytes)
    × Performs {R = Result (Unit {0}) CreateFault} known path (making office old) status old new)
    ⊎ ((IfSome input (λ bytes. is_code (first_line bytes) ≡ false) × Says bad_code status old new)
    ⊎ (Says (fault cause.Read) status old new ⊎ Says (fault cause.Memory) status old new))

-- each command over a database, with this input and output
abbrev pub PerformsCommand : {V : Type 0} → (V → Option Text) → Known → Devices → ℕ → Command → Type 0
PerformsCommand held known ends status (command.Init path) =
    Inits known path.now ends.remaining status ends.before ends.after
PerformsCommand held known ends status (command.Serve database port connections) =
    Performs known database.now (serving port connections ends.before) status ends.before ends.after
PerformsCommand held known ends status (command.Pipe path) =
    Performs known path.now (piping held ends) status ends.before ends.after
PerformsCommand held known ends status (command.Report path) =
    Performs known path.now (reporting ends.before) status ends.before ends.after
PerformsCommand held known ends status (command.Upgrade path) =
    Performs {R = Result (Unit {0}) UpgradeFault} known path.now (upgrading ends.before) status ends.before ends.after
PerformsCommand held known ends status _ = Unit {0}

-- the same of the command of this name over this database
abbrev pub PerformsNamed : {V : Type 0} → (V → Option Text) → Known → Devices → ℕ → Text → Text → Type 0
PerformsNamed held known ends status name db =
    ((name ≡ codes "init") × Inits known db ends.remaining status ends.before ends.after)
    ⊎ (((name ≡ codes "pipe") × Performs known db (piping held ends) status ends.before ends.after)
    ⊎ (((name ≡ codes "report") × Performs known db (reporting ends.before) status ends.before ends.after)
    ⊎ ((name ≡ codes "upgrade")
    × Performs {R = Result (Unit {0}) UpgradeFault} known db (upgrading ends.before) status ends.before ends.after)))
