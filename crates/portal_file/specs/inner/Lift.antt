-- Work over files, as work over a connection to them.
use Rattle.std.specs.Prelude.{◌≡◌, None, Result}
use Rattle.sqlite_disk.specs.declared.Disk.{Ghosts}
use Rattle.sqlite_disk.specs.declared.Files.{Files}
use Rattle.sqlite_store.specs.declared.store.FileStore.{FileStore}
use Rattle.sqlite_wal.specs.Recovery.{Image}
use Rattle.sqlite.specs.Held.{Held}
use Rattle.sqlite.specs.State.{State, HasCleanDisk}
use Rattle.sqlite.specs.Files.{file_state, IsOpened}
use Rattle.sqlite.specs.Start.{FindsIn}
use Rattle.portal_rules.specs.World.{World}
use Rattle.portal_store.specs.declared.store.OpenFault.{OpenFault}
use Rattle.portal_store.specs.Crash.{AreRefused}
use Rattle.portal_file.specs.Tables.{FileEffect, Current, idle, opened_over}
use Rattle.portal_file.specs.declared.closing.NotCopied.{NotCopied}
use Rattle.portal_file.specs.Closing.{ClosesConnection}
use Rattle.portal_file.specs.Jobs.{IsOfStore, IsSame}
use Rattle.portal_file.specs.inner.Connected.{work_of}

-- a connection that was just opened over files with these contents
abbrev pub OpensOver : {D : Type 0} {g : Ghosts D} → Image → Held (FileStore D g) → Type 0
OpensOver found conn =
    HasCleanDisk (file_state conn) → IsOpened conn × FindsIn found (file_state conn) × (conn.step_limit ≡ None)

-- work over a connection, if its disk is clean: it was clean before, and this was done
pub record WorksOver (old new : State) (Does : FileEffect → Type 0) : Type 0 where
  pub disk : HasCleanDisk new → HasCleanDisk old
  pub did : HasCleanDisk new → Does (work_of old new)

-- a connection was opened over files with these contents, this was done over it, and it was closed
pub record RunsOver {D : Type 0} (g : Ghosts D) (found : Image) (Does : FileEffect → Type 0)
    (closed : Result (Files D) (NotCopied D)) : Type 0 where
  pub first : Held (FileStore D g)
  pub last : Held (FileStore D g)
  pub opened : OpensOver found first
  pub works : WorksOver (file_state first) (file_state last) Does
  pub closes : ClosesConnection g last closed

-- the tables were not opened, for this fault
pub record RefusesTables (fault : OpenFault) (work : FileEffect) : Type 0 where
  pub serves : work.serves idle
  pub judged : work.begins (λ db. AreRefused fault (opened_over db))
  pub denies : (w : World) → work.finds Current w → IsOfStore fault
  pub kept : work.ends IsSame
