-- The portal's tables, as a database stands for a world, and what work over them finds and leaves.
use Rattle.std.specs.Prelude.{◌≡◌, ◌⊎◌, pos, true, false, [], None}
use Rattle.sqlite.specs.Effect.{Database, IsDatabase}
use Rattle.sqlite.specs.State.{State}
use Rattle.sqlite.specs.Tree.{Trees}
use Rattle.portal_rules.specs.World.{World}
use Rattle.portal_rules.specs.declared.phase.Round.TheVariants as round
use Rattle.portal_desk.specs.Kept.{MayReach}
use Rattle.portal_desk.specs.Session.{Visit, Tells}
use Rattle.portal_tables.specs.Tables.{IsCurrentSchema, IsFirstSchema, first_version}
use Rattle.portal_store.specs.Kept.{HasGoodFirst, HasGoodWorld}
use Rattle.portal_store.specs.World.{world_in, world_of}

-- the version of the portal's tables: 1, 2, or either
pub data Version : Type 0 where
  First : Version
  Current : Version
  Either : Version

-- the database is the portal's own, of version 2, and stands for this good world
pub record StandsCurrent (db : Database) (w : World) : Type 0 where
  pub schema : IsCurrentSchema db.schema
  pub sound : IsDatabase db
  pub stands : HasGoodWorld db.trees
  pub world : world_of db.trees ≡ w

-- the same of version 1
pub record StandsFirst (db : Database) (w : World) : Type 0 where
  pub schema : IsFirstSchema db.schema
  pub sound : IsDatabase db
  pub stands : HasGoodFirst first_version db.trees
  pub world : world_in round.First db.trees ≡ w

-- the same of this version
abbrev pub Stands : Version → Database → World → Type 0
Stands First db w = StandsFirst db w
Stands Current db w = StandsCurrent db w
Stands Either db w = StandsCurrent db w ⊎ StandsFirst db w

-- a connection that was just opened over this database
abbrev pub opened_over : Database → State
opened_over db = record {
  now = db;
  committed = db;
  in_transaction = false;
  marks = [];
  is_open = true;
  is_clean = true;
  faults = 0;
  blamed = None;
  changes = 0;
  last_rowid = pos 0;
  step_limit = None;
  may_leave = λ left. left ≡ db.trees;
  IsShielded = Unit {0};
}

-- no request
abbrev pub idle : Visit
idle = record { exchanges = []; stream = None }

-- from a world that is found, the requests of the visit with their replies lead to what is left
pub record IsTurn (Finds : World → Type 0) (Leaves : (World → Type 0) → Type 0) (v : Visit) : Type 0 where
  -- a world is left that the requests may reach
  pub reaches : (w : World) → Finds w → Leaves (MayReach w v.exchanges)
  -- what is written tells the requests, if the bytes are known
  pub tells : Tells v

-- work over tables, in a connection or in files
pub record FileEffect : Type 1 where
  -- it finds tables of this version that stand for this world
  pub finds : Version → World → Type 0
  -- it finds no table
  pub is_new : Type 0
  -- the database that it finds is of this kind
  pub begins : (Database → Type 0) → Type 0
  -- whatever database it leaves comes so of the one that it finds
  pub ends : (Database → Trees → Type 0) → Type 0
  -- whatever it leaves is tables of this version that stand for a world of this kind
  pub leaves : Version → (World → Type 0) → Type 0
  -- it serves the requests of this visit
  pub serves : Visit → Type 0
