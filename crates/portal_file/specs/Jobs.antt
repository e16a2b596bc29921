-- What the commands promise of their work, by what they return.
use Rattle.std.specs.Prelude.{◌≡◌, ◌≢◌, ◌⊎◌, ◌↔◌, ℕ, Bool, List, [], ◌++◌, length, Option, Some, None, IfSome}
use Rattle.std.specs.Prelude.{IsSomeAnd, Result, Ok, Err, IfOk, IfErr, OnOk, MatchResult, Vec}
use Rattle.std.specs.declared.alloc.Global.{Global}
use Rattle.sqlite.specs.Effect.{Database}
use Rattle.sqlite.specs.Tree.{Trees}
use Rattle.portal_rules.specs.Words.{Key}
use Rattle.portal_rules.specs.World.{World}
use Rattle.portal_rules.specs.Good.{Good}
use Rattle.portal_rules.specs.View.{office_sees}
use Rattle.portal_rules.specs.declared.keeper.KeepFault.{KeepFault}
use Rattle.portal_wire.specs.Conversation.{Exchange}
use Rattle.portal_desk.specs.Session.{Stream, Visit, count_of, finish_of}
use Rattle.portal_desk.specs.declared.served.Served.{Served}
use Rattle.portal_desk.specs.declared.served.ServeFault.{ServeFault}
use Rattle.portal_serve.specs.Hall.{office_report}
use Rattle.portal_tables.specs.Tables.{IsCurrentSchema, IsFirstSchema, no_schema}
use Rattle.portal_tables.specs.Making.{IsFresh}
use Rattle.portal_store.specs.Kept.{AreConsistent}
use Rattle.portal_store.specs.World.{first_world}
use Rattle.portal_store.specs.Crash.{AfterUpgrading, AreBarred, AreOpened, AreRefused, AreUpgraded}
use Rattle.portal_store.specs.declared.store.CreateFault.{CreateFault}
use Rattle.portal_store.specs.declared.store.CreateFault.TheVariants as creating
use Rattle.portal_store.specs.declared.store.OpenFault.{OpenFault}
use Rattle.portal_store.specs.declared.store.OpenFault.TheVariants as opening
use Rattle.portal_store.specs.declared.store.UpgradeFault.{UpgradeFault}
use Rattle.portal_store.specs.declared.store.UpgradeFault.TheVariants as upgrading
use Rattle.portal_file.specs.Tables.{FileEffect, First, Current, Either, StandsCurrent, StandsFirst, idle, opened_over}

-- what is left has the rows of the database that was found
abbrev pub IsSame : Database → Trees → Type 0
IsSame db left = left ≡ db.trees

-- making the tables

-- after this refusal: what was there; or, if the store failed or memory ran out, the new tables
abbrev pub MayMake : CreateFault → Key → Database → Trees → Type 0
MayMake creating.Exists office db left = IsSame db left
MayMake _ office db left = IsSame db left ⊎ ((made : Database) × IsFresh office made × (left ≡ made.trees))

-- making the tables, with this office code
pub record MakesTables {A : Type 0} (office : Key) (r : Result A CreateFault) (work : FileEffect) : Type 0 where
  -- no request is served
  pub serves : work.serves idle
  -- if the tables were made, the empty world is left, which is good, in version 2
  pub made : OnOk r (Good (first_world office) × work.leaves Current (λ w. w ≡ first_world office))
  -- in tables such as each change may rely on
  pub lasting : OnOk r (work.ends (λ db left. AreConsistent left))
  -- and no world was found
  pub none : OnOk r ((w : World) → work.finds Either w → ⊥)
  -- `Exists` is the answer exactly if a table, an index or a view was found
  pub judged : work.begins (λ db. (r ≡ Err creating.Exists) ↔ (db.schema ≢ no_schema))
  -- and so never to a missing or empty file
  pub exists : r ≡ Err creating.Exists → work.is_new → ⊥
  -- a refusal leaves what was there, or all of the new tables
  pub kept : IfErr r (λ fault. work.ends (MayMake fault office))

-- upgrading the tables

-- after this refusal: what was there; or, if the store failed or memory ran out, all of the upgraded
-- tables
abbrev pub MayUpgrade : UpgradeFault → Database → Trees → Type 0
MayUpgrade fault db left = IsSame db left ⊎ AfterUpgrading fault (opened_over db) left

-- upgrading them to version 2
pub record UpgradesTables {A : Type 0} (r : Result A UpgradeFault) (work : FileEffect) : Type 0 where
  -- no request is served
  pub serves : work.serves idle
  -- if they were upgraded, a world that was found in version 1 is left in version 2
  pub upgraded : OnOk r ((w : World) → work.finds First w → work.leaves Current (λ v. v ≡ w))
  -- in tables such as each change may rely on
  pub lasting : OnOk r (work.ends (λ db left. IsFirstSchema db.schema → AreConsistent left))
  -- and none was found in version 2
  pub none : OnOk r ((w : World) → work.finds Current w → ⊥)
  -- the answer tells what was found, as the store says it
  pub judged : work.begins (λ db. MatchResult r (λ _. AreUpgraded (opened_over db))
      (λ fault. AreBarred fault (opened_over db)))
  -- own tables that were upgraded stood for a good world of version 1
  pub stood : OnOk r (work.begins (λ db. IsFirstSchema db.schema → (w : World) × StandsFirst db w))
  -- a world that was found in version 1 is refused for a fault of the store or want of memory alone
  pub refused : IfErr r (λ fault. (w : World) → work.finds First w
      → (fault ≡ upgrading.Store) ⊎ (fault ≡ upgrading.Memory))
  -- a refusal leaves what was there; only after `Store` or `Memory` perhaps all of the upgraded tables
  pub kept : IfErr r (λ fault. work.ends (MayUpgrade fault))

-- opening the tables for a command

-- the faults of opening that say nothing of the tables
abbrev pub IsOfStore : OpenFault → Type 0
IsOfStore fault = (fault ≡ opening.Store) ⊎ (fault ≡ opening.Memory)

-- opening them for work with this result; what is done after `Ok` begins with these tables
pub record OpensTables {A : Type 0} (r : Result A OpenFault) (work : FileEffect) : Type 0 where
  -- the result tells what was found, as the store says it
  pub judged : work.begins (λ db. MatchResult r (λ _. AreOpened (opened_over db))
      (λ fault. AreRefused fault (opened_over db)))
  -- own tables that were opened stood for a good world of version 2
  pub stood : OnOk r (work.begins (λ db. IsCurrentSchema db.schema → (w : World) × StandsCurrent db w))
  -- tables with a good world of version 2 are refused for a fault of the store or of memory alone
  pub refused : IfErr r (λ fault. (w : World) → work.finds Current w → IsOfStore fault)
  -- opened tables, if they are own, are left such as each change may rely on
  pub lasting : OnOk r (work.ends (λ db left. IsCurrentSchema db.schema → AreConsistent left))
  -- a refusal, of any tables, leaves what was there
  pub kept : IfErr r (λ _. work.ends IsSame)

-- reporting on them
pub record ReportsWorld (r : Result (Result (Vec ℕ Global) KeepFault) OpenFault) (work : FileEffect) : Type 0 where
  -- no request is served
  pub serves : work.serves idle
  -- the tables were opened or refused
  pub opens : OpensTables r work
  -- the text is the report on the world that was found
  pub text : IfOk r (λ told. IfOk told (λ text. (w : World) → work.finds Either w
      → text.items ≡ office_report (office_sees w)))

-- letting a service serve requests, which are told so
pub record ServesRequests {A : Type 0} (r : Result A OpenFault) (Told : List Exchange → Type 0)
    (work : FileEffect) : Type 0 where
  -- some requests are served, of whose bytes nothing is known; none, if the tables were refused
  pub serves : (es : List Exchange) × work.serves (record { exchanges = es; stream = None })
      × MatchResult r (λ _. Told es) (λ _. es ≡ [])
  -- the tables were opened or refused
  pub opens : OpensTables r work

-- what a reader has to give before and after a call, and what a writer holds, where that is known
pub record Devices : Type 0 where
  pub remaining : Option (List ℕ)
  pub left : Option (List ℕ)
  pub before : Option (List ℕ)
  pub after : Option (List ℕ)

-- if the ends are known, the stream is known, and has their bytes
abbrev pub IsOf : Option Stream → Devices → Type 0
IsOf stream ends =
    (bytes before after : List ℕ) → ends.remaining ≡ Some bytes → ends.before ≡ Some before → ends.after ≡ Some after
    → IsSomeAnd stream (λ s. (s.bytes ≡ bytes) × (after ≡ before ++ s.written))

-- the result of serving a stream tells its requests and its end
pub record ReportsStream (r : Result Served ServeFault) (ends : Devices) (v : Visit) : Type 0 where
  -- the stream is the one of the reader and the writer
  pub known : IsOf v.stream ends
  -- if it is known, its requests are counted
  pub counted : IfSome v.stream (λ _. count_of r ≡ length v.exchanges)
  -- and it ends as the result says, whether or not the store has failed
  pub ended : IfSome v.stream (λ s. (failed : Bool) × (s.finish ≡ finish_of r failed ends.left))

-- the stream was served; or the tables were refused, no request was made, and nothing was read or
-- written
abbrev pub IsPiped : Result (Result Served ServeFault) OpenFault → Devices → Visit → Type 0
IsPiped (Ok r) ends v = ReportsStream r ends v
IsPiped (Err fault) ends v = (v.exchanges ≡ []) × (ends.left ≡ ends.remaining) × (ends.after ≡ ends.before)

-- serving a reader and a writer as one connection
pub record PipesStream (r : Result (Result Served ServeFault) OpenFault) (ends : Devices) (work : FileEffect) : Type 0 where
  -- the requests of a stream are served, of which the result tells
  pub serves : (v : Visit) × work.serves v × IsPiped r ends v
  -- the tables were opened or refused
  pub opens : OpensTables r work
