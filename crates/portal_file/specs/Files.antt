-- What a database file of the portal holds.
use Rattle.std.specs.Prelude.{◌≡◌}
use Rattle.sqlite.specs.Effect.{Database, IsDatabase}
use Rattle.sqlite.specs.Files.{AreFoundIn, HoldsDatabase}
use Rattle.sqlite.specs.Tree.{Trees}
use Rattle.sqlite_wal.specs.Recovery.{Image}
use Rattle.portal_rules.specs.World.{World}
use Rattle.portal_file.specs.Tables.{Stands, Version, Either}

-- the database file and its log hold the portal's own tables, of this version, which stand for this
-- good world
abbrev pub Holds : Version → Image → World → Type 0
Holds version image w = ∥ ((db : Database) × HoldsDatabase image db.trees × Stands version db w) ∥₁

-- they hold them, of version 1 or 2
abbrev pub HoldsWorld : Image → World → Type 0
HoldsWorld = Holds Either

-- they hold a world of this kind
abbrev pub HoldsSome : Version → Image → (World → Type 0) → Type 0
HoldsSome version image Kind = ∥ ((w : World) × Kind w × Holds version image w) ∥₁

-- they hold a database of this kind, whatever its tables are
abbrev pub HoldsTrees : Image → (Trees → Type 0) → Type 0
HoldsTrees image Kind = ∥ ((db : Trees) × Kind db × HoldsDatabase image db) ∥₁

-- a connection to them shows this database: the one that they hold, if they hold one
pub record ShownIn (image : Image) (db : Database) : Type 0 where
  pub sound : IsDatabase db
  pub holds : (trees : Trees) → HoldsDatabase image trees → db.trees ≡ trees
  pub reads : AreFoundIn image db.trees
