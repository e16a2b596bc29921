-- How the files of a store are closed: its log is copied into the database file, or that fails.
use Rattle.std.specs.Prelude.{◌≡◌, ◌⊎◌, true, false, Result, Ok, Err, IfErr, IsTrue}
use Rattle.sqlite_disk.specs.Disk.{MoreFaults}
use Rattle.sqlite_disk.specs.declared.Disk.{Ghosts}
use Rattle.sqlite_disk.specs.declared.Files.{Files}
use Rattle.sqlite_wal.specs.Files.{outcomes}
use Rattle.sqlite_wal.specs.Reads.{AreClean}
use Rattle.sqlite_wal.specs.Recovery.{Image}
use Rattle.sqlite_trees.specs.View.{HasCause, IsClean}
use Rattle.sqlite_store.specs.declared.store.FileStore.{FileStore}
use Rattle.sqlite_store.specs.FileStore.{HasSpilled, faults, files, log_frames, view}
use Rattle.sqlite.specs.Files.{file_state}
use Rattle.sqlite.specs.Held.{Held}
use Rattle.sqlite.specs.State.{State, HasCleanDisk}
use Rattle.portal_file.specs.Files.{HoldsTrees}
use Rattle.portal_file.specs.declared.closing.NotCopied.{NotCopied}

-- the files are so, unless copying their log has failed and shut the store
abbrev pub IfStands : {D : Type 0} → Result (Files D) (NotCopied D) → (Files D → Type 0) → Type 0
IfStands (Ok closed) Kind = Kind closed
IfStands (Err left) Kind = IsTrue left.stands → Kind left.files

-- these are the files of a store whose log was copied: it has no frame left, unless pages of a
-- transaction had spilled into it; or the store is broken, and they are as it left them
abbrev pub IsCopied : {D : Type 0} {g : Ghosts D} → FileStore D g → Files D → Type 0
IsCopied {D} {g} old closed =
    (IsClean (view old) → (view old).is_broken ≡ true)
    ⊎ ((new : FileStore D g) × ((closed.log, closed.db) ≡ files new) × (¬ HasSpilled old → log_frames new ≡ 0))

-- the log of this store was not copied
pub record FailsToCopy {D : Type 0} {g : Ghosts D} (old new : FileStore D g) (left : NotCopied D) : Type 0 where
  -- these are its files
  pub files_are : (left.files.log, left.files.db) ≡ files new
  -- on a clean disk, the cause is want of memory, or the disk has failed in copying
  pub cause : IsClean (view new) → HasCause (view old) (MoreFaults (faults old) (faults new)) ⊥ left.cause
  -- it has failed if this shut the store
  pub shut : IsClean (view new) → left.stands ≡ false → MoreFaults (faults old) (faults new)

-- if copying failed, it is the log of some store of these files
abbrev pub IfNotCopied : {D : Type 0} → Ghosts D → Result (Files D) (NotCopied D) → Type 0
IfNotCopied {D} g closed = IfErr closed (λ left. (old new : FileStore D g) × FailsToCopy old new left)

-- the files hold a database that a stop of the connection may leave
abbrev pub HoldsLeft : State → Image → Type 0
HoldsLeft s image = HoldsTrees image s.may_leave

-- if the disk is clean, it was so before, and what is left holds what a stop of the connection leaves
pub record ComesOf (s : State) (Clean : Type 0) (Leaves : Image → Type 0) : Type 0 where
  pub clean : Clean → HasCleanDisk s
  pub holds : Clean → (image : Image) → Leaves image → HoldsLeft s image

-- the files of a connection were closed; if the disk is clean, a crash leaves what one before did
pub record ClosesConnection {D : Type 0} (g : Ghosts D) (conn : Held (FileStore D g))
    (closed : Result (Files D) (NotCopied D)) : Type 0 where
  pub comes : IfStands closed
      (λ files. ComesOf (file_state conn) (AreClean g files.log files.db) (outcomes g files.log files.db))
  pub failed : IfNotCopied g closed
