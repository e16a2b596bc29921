-- Processes over one database file, each of which finds what the one before may leave, and what is
-- promised of them.
use Rattle.std.specs.Prelude.{◌≡◌, ◌⊎◌, List, [], ◌∷◌, Result}
use Rattle.sqlite.specs.Effect.{Database}
use Rattle.sqlite_disk.specs.declared.Disk.{Ghosts}
use Rattle.sqlite_disk.specs.declared.Files.{Files}
use Rattle.sqlite_wal.specs.Files.{outcomes}
use Rattle.sqlite_wal.specs.Reads.{AreClean}
use Rattle.sqlite_wal.specs.Recovery.{Image}
use Rattle.portal_rules.specs.World.{World}
use Rattle.portal_rules.specs.Good.{Good}
use Rattle.portal_rules.specs.Run.{AllAnswered, end_of, unavailable}
use Rattle.portal_wire.specs.Conversation.{Exchange, replies_of}
use Rattle.portal_desk.specs.Session.{Session}
use Rattle.portal_desk.specs.Headline.{AreInTurn, HasPromise, IsLikeAll, IsUpheld, exchanges_of, left_by, visits_of}
use Rattle.portal_file.specs.Closing.{IfNotCopied, IfStands}
use Rattle.portal_file.specs.Tables.{IsTurn, FileEffect, Either}
use Rattle.portal_file.specs.declared.closing.NotCopied.{NotCopied}
use Rattle.portal_file.specs.Files.{Holds, HoldsSome, HoldsTrees, HoldsWorld, ShownIn}

-- a process, between what the files hold before it and after it: whatever world they held, its requests
-- lead from it to a world that they hold afterwards
abbrev pub IsProcess : Session Image → Type 0
IsProcess p = IsTurn (HoldsWorld p.found) (HoldsSome Either p.left) p.visit

-- processes in turn, each of which finds what the one before left
abbrev pub AreProcesses : Image → List (Session Image) → Type 0
AreProcesses = AreInTurn (λ left found. found ≡ left) IsProcess

abbrev pub exchanges_by : List (Session Image) → List Exchange
exchanges_by ps = exchanges_of (visits_of ps)

-- the same requests with the same replies, but one with the reply 503 may have been carried out
abbrev pub MayStandFor : List Exchange → List Exchange → Type 0
MayStandFor [] [] = Unit {0}
MayStandFor (e ∷ es) (f ∷ fs) =
    (f.request ≡ e.request) × ((f.reply ≡ e.reply) ⊎ (e.reply ≡ unavailable)) × MayStandFor es fs
MayStandFor _ _ = ⊥

-- the requests of the processes are a run from the world that the files held, and they hold its end;
-- with the replies that were given, it is like all other runs to each caller who got no 503
abbrev pub KeptOverFiles : Type 0
KeptOverFiles =
    (w : World) (image : Image) (ps : List (Session Image)) → Good w → HoldsWorld image w → AreProcesses image ps
    → ∥ ((es : List Exchange) × MayStandFor (exchanges_by ps) es × (worlds : List World) × IsUpheld w es worlds
    × IsLikeAll w (exchanges_by ps) worlds × HoldsWorld (left_by image ps) (end_of w worlds)) ∥₁

-- if no reply is 503, the requests have the main promise with the replies that were given
abbrev pub PromisedOverFiles : Type 0
PromisedOverFiles =
    (w : World) (image : Image) (ps : List (Session Image)) → Good w → HoldsWorld image w → AreProcesses image ps
    → AllAnswered (replies_of (exchanges_by ps))
    → ∥ ((worlds : List World) × HasPromise w (exchanges_by ps) worlds
    × HoldsWorld (left_by image ps) (end_of w worlds)) ∥₁

-- what the functions of this crate say

-- work over files with these contents, of which a crash may then leave such contents: it is a process
-- to each of these
abbrev pub work_over : Image → (Image → Type 0) → FileEffect
work_over found Leaves = record {
  finds = λ version. Holds version found;
  is_new = found.db ≡ [];
  begins = λ Kind. ∥ ((db : Database) × ShownIn found db × Kind db) ∥₁;
  ends = λ Comes. ∥ ((db : Database) × ShownIn found db
      × ((left : Image) → Leaves left → HoldsTrees left (Comes db))) ∥₁;
  leaves = λ version Kind. (left : Image) → Leaves left → HoldsSome version left Kind;
  serves = λ visit. (left : Image) → Leaves left → IsProcess (record { found = found; left = left; visit = visit });
}

-- if the disk of the closed files was clean, this was done over what they held before
abbrev pub OverFiles : {D : Type 0} (g : Ghosts D) → Image → (FileEffect → Type 0) → Files D → Type 0
OverFiles g found Does files = AreClean g files.log files.db → Does (work_over found (outcomes g files.log files.db))

-- the same of files that were closed, also where copying their log failed and the store still stood
pub record OverClosed {D : Type 0} (g : Ghosts D) (found : Image) (Does : FileEffect → Type 0)
    (closed : Result (Files D) (NotCopied D)) : Type 0 where
  pub did : IfStands closed (OverFiles g found Does)
  -- why it failed
  pub failed : IfNotCopied g closed
