-- The lines that a command writes, with its exit status.
use Rattle.std.specs.Prelude.{◌≡◌, ◌⊎◌, ◌++◌, ℕ, Option, codes, decimal, take}
use Rattle.std.specs.Io.KnownBytes.{Appends}
use Rattle.portal_answer.specs.Answer.{Text, Output}
use Rattle.portal_desk.specs.declared.served.Cause.{Cause}
use Rattle.portal_desk.specs.declared.served.Cause.TheVariants as cause
use Rattle.portal_serve.specs.declared.server.Hall.{Hall}
use Rattle.portal_store.specs.declared.store.UpgradeFault.{UpgradeFault}
use Rattle.portal_store.specs.declared.store.UpgradeFault.TheVariants.{NotPortal, OtherVersion, Damaged, Exists, Store}
use Rattle.portal_store.specs.declared.store.UpgradeFault.TheVariants.{Memory}

-- the output failed: a beginning of the text was written, then one of the line `fault write`
pub record FailsToWrite (text : Text) (status : ℕ) (old new : Option Text) : Type 0 where
  pub status_is : status ≡ 3
  pub front : ℕ
  pub fault : ℕ
  pub written : Appends old new (take front text ++ take fault (codes "fault write\n"))

-- the text was written, with its exit status, or the output failed
abbrev pub Says : Output → ℕ → Option Text → Option Text → Type 0
Says told status old new =
    ((status ≡ told.status) × Appends old new told.text) ⊎ FailsToWrite told.text status old new

-- success with this text
abbrev pub success : Text → Output
success text = record { text = text; status = 0 }

-- a device or memory failed
abbrev pub fault : Cause → Output
fault cause.Read = record { text = codes "fault read\n"; status = 3 }
fault cause.Write = record { text = codes "fault write\n"; status = 3 }
fault cause.Memory = record { text = codes "fault memory\n"; status = 3 }
fault cause.Store = record { text = codes "fault store\n"; status = 3 }

-- why a command refuses a database, or which fault came before its work
abbrev pub refusal : UpgradeFault → Output
refusal NotPortal = record { text = codes "refused not_portal\n"; status = 2 }
refusal OtherVersion = record { text = codes "refused other_version\n"; status = 2 }
refusal Damaged = record { text = codes "refused damaged\n"; status = 2 }
refusal Exists = record { text = codes "refused exists\n"; status = 2 }
refusal Store = fault cause.Store
refusal Memory = fault cause.Memory

-- the first line of the input is no code
abbrev pub bad_code : Output
bad_code = record { text = codes "refused bad_code\n"; status = 2 }

-- the port that is listened on
abbrev pub listening_line : ℕ → Text
listening_line port = codes "listening 127.0.0.1:" ++ (decimal port ++ codes "\n")

-- how many connections were served, and how many of them with a fault of their own
abbrev pub hall_line : Hall → Text
hall_line hall = codes "served " ++ (decimal hall.accepted ++ (codes " faults " ++ (decimal hall.faults ++ codes "\n")))
