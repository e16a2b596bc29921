-- What work over a connection to the portal's tables finds and leaves.
use Rattle.std.specs.Prelude.{◌≡◌, None, IsTrue}
use Rattle.sqlite.specs.State.{State}
use Rattle.sqlite.specs.Store.{Ghosts}
use Rattle.sqlite.specs.Held.{Held, state}
use Rattle.sqlite.specs.Effect.{Database}
use Rattle.sqlite.specs.Tree.{Trees}
use Rattle.portal_rules.specs.World.{World}
use Rattle.portal_tables.specs.Tables.{no_schema}
use Rattle.portal_tables.specs.Steps.{LeavesOnly}
use Rattle.portal_store.specs.Kept.{IsConsistent, StoreState, IsCleanStore, LeavesConsistent}
use Rattle.portal_file.specs.Tables.{Version, Either, Stands, IsTurn, FileEffect}

-- the trees are those of a database that stands so for the world
abbrev pub TreesStand : Version → Trees → World → Type 0
TreesStand version db w = (d : Database) × (d.trees ≡ db) × Stands version d w

-- the connection is open and shows a database that stands so for the world
pub record Shows (version : Version) (s : State) (w : World) : Type 0 where
  pub is_open : IsTrue s.is_open
  pub stands : ∥ Stands version s.now w ∥₁

-- each of these trees stands so for a world of this kind
abbrev pub AllStand : Version → (Trees → Type 0) → (World → Type 0) → Type 0
AllStand version Finds Kind = (db : Trees) → Finds db → ∥ ((w : World) × Kind w × TreesStand version db w) ∥₁

-- what a store promises of the connection that it gives back
pub record ClosesAs {S : Type 0} (g : Ghosts S) (s : StoreState S) (new : Held S) : Type 0 where
  pub same : new ≡ s.conn
  pub kept : IsCleanStore g s → IsConsistent (state g new).now
  pub only : IsTrue (state g new).is_open → LeavesOnly (state g new)
  pub left : LeavesConsistent g s

-- the connection is open, and the steps of a query are not limited
pub record IsUnlimited (s : State) : Type 0 where
  pub is_open : IsTrue s.is_open
  pub unlimited : s.step_limit ≡ None

-- work over a connection: what it shows before, and what a stop after it may leave
abbrev pub work_of : State → State → FileEffect
work_of old new = record {
  finds = λ version. Shows version old;
  is_new = old.now.schema ≡ no_schema;
  begins = λ Kind. IsUnlimited old → Kind old.now;
  ends = λ Comes. IsUnlimited old → (db : Trees) → new.may_leave db → Comes old.now db;
  leaves = λ version. AllStand version new.may_leave;
  serves = IsTurn (Shows Either old) (AllStand Either new.may_leave);
}
