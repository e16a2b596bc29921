-- What is known of the tables while they are read, and what is remembered.
use Rattle.std.specs.Prelude.{◌≡◌, List, Option, Result, Ok, Err, IfOk, IsTrue, MatchResult}
use Rattle.sqlite.specs.Order.{Row}
use Rattle.sqlite.specs.Effect.{Database, IsDatabase}
use Rattle.sqlite.specs.Held.{Held, state}
use Rattle.sqlite.specs.State.{State, HasCleanDisk, IsLive}
use Rattle.sqlite.specs.Store.{Ghosts}
use Rattle.sqlite.specs.Tree.{Trees}
use Rattle.portal_rules.specs.declared.phase.Round.{Round}
use Rattle.portal_rules.specs.World.{World}
use Rattle.portal_store.specs.inner.ViewCache.{IsCacheOf}
use Rattle.portal_store.specs.declared.reading.view_cache.ViewCache.{ViewCache}
use Rattle.portal_rules.specs.Good.{Good}
use Rattle.portal_list.specs.Rows.{AllEntries}
use Rattle.portal_tables.specs.inner.Changes.{every}
use Rattle.portal_tables.specs.inner.Queries.{selection}
use Rattle.portal_tables.specs.declared.reading.office.Office.{Office}
use Rattle.portal_tables.specs.declared.sql.select.Query.{Query}
use Rattle.portal_tables.specs.Reads.{Blames, HasRound}
use Rattle.portal_tables.specs.declared.fault.TableFault.{TableFault}
use Rattle.portal_store.specs.Kept.{IsConsistent, IsConsistentIn}
use Rattle.portal_store.specs.inner.Keeping.{AreEntries}
use Rattle.portal_store.specs.World.{world_in, world_of}

-- a query of all rows of a table, and these rows
abbrev pub ReadsAll : Query → Type 0
ReadsAll query = (selection query).passes ≡ every

abbrev pub queried_rows : Query → Trees → List Row
queried_rows query db = db (selection query).tree

-- this holds where the tables of a round are the portal's own, the database is sound if it is open,
-- and the disk is clean
abbrev pub OverLive : Round → {S : Type 0} → Ghosts S → Held S → Held S → Type 0 → Type 0
OverLive round g old new So = HasRound round old.schema → IsLive (state g old) → HasCleanDisk (state g new) → So

-- the database is sound if the connection is open
abbrev pub IsSoundIfOpen : {S : Type 0} → Ghosts S → Held S → Database → Type 0
IsSoundIfOpen g conn db = IsTrue (state g conn).is_open → IsDatabase db

-- the round, its phase and the code of the office are the world's
pub record IsNow (w : World) (round : Round) (office : Office) : Type 0 where
  pub round_is : w.round ≡ round
  pub phase_is : w.phase ≡ office.phase
  pub code_is : w.office ≡ office.code

-- the tables are what a store keeps, and what is remembered is right
abbrev pub Remembers : ViewCache → Database → Type 0
Remembers cache db = IsConsistent db × IsCacheOf cache (world_of db.trees)

-- what is remembered is right, and the answer is this of the world;
-- if it is good, the rows are not refused
abbrev pub ShowsWorld : {V : Type 0} → ViewCache → (World → V → Type 0) → Database → Result V TableFault → Type 0
ShowsWorld cache Answer db result =
    IsCacheOf cache (world_of db.trees)
    × MatchResult result (Answer (world_of db.trees)) (λ fault. Blames fault (Good (world_of db.trees)))

-- the same of tables of a round
abbrev pub RemembersIn : Round → ViewCache → Database → Type 0
RemembersIn round cache db = IsConsistentIn round db × IsCacheOf cache (world_in round db.trees)

abbrev pub ShowsWorldIn : {V : Type 0} → Round → ViewCache → (World → V → Type 0) → Database → Result V TableFault → Type 0
ShowsWorldIn round cache Answer db result =
    IsCacheOf cache (world_in round db.trees)
    × MatchResult result (Answer (world_in round db.trees)) (λ fault. Blames fault (Good (world_in round db.trees)))

-- the same result, with another fault for a fault
abbrev pub IsSameUpToFault : {V E F : Type 0} → Result V E → Result V F → Type 0
IsSameUpToFault (Ok v) told = told ≡ Ok v
IsSameUpToFault (Err e) told = IfOk told (λ _. ⊥)

-- the entries before were those of the world, so those after are
abbrev pub KeepsEntries : Option AllEntries → Option AllEntries → State → State → Type 0
KeepsEntries before after old new =
    IsConsistent old.now → Good (world_of old.now.trees) → HasCleanDisk new → AreEntries before (world_of old.now.trees) → AreEntries after (world_of old.now.trees)
