-- What a refusal to open or to upgrade says of the tables.
use Rattle.std.specs.Prelude.{◌≡◌, ℕ, ◌++◌, [], Result, Ok, Err}
use Rattle.sqlite.specs.State.{State}
use Rattle.sqlite.specs.Tree.{Trees}
use Rattle.portal_rules.specs.Good.{Good}
use Rattle.portal_tables.specs.Tables.{portal_tree, first_trees, later_trees, own_trees, version}
use Rattle.portal_tables.specs.Rows.{HasOffice}
use Rattle.portal_store.specs.World.{round_in, world_of}
use Rattle.portal_store.specs.Kept.{AreWhole, HasGoodWorld, HasGoodFirst}
use Rattle.portal_store.specs.Crash.{ShowsOffice, ShowsOther}
use Rattle.portal_store.specs.inner.Keeping.{AllNumbersDiffer, early_trees}
use Rattle.portal_store.specs.declared.store.OpenFault.{OpenFault}
use Rattle.portal_store.specs.declared.store.OpenFault.TheVariants as opening

-- a refusal is for the store or for want of memory, or it says that this is not so
abbrev pub SaysNot : OpenFault → Type 0 → Type 0
SaysNot opening.NotPortal so = ⊥
SaysNot opening.OtherVersion so = ⊥
SaysNot opening.Damaged so = so → ⊥
SaysNot opening.Store so = Unit {0}
SaysNot opening.Memory so = Unit {0}

-- a refusal is for the store or for want of memory: of the tables it says nothing
abbrev pub SaysNothing : OpenFault → Type 0
SaysNothing fault = SaysNot fault (Unit {0})

-- a refusal is for the rows, for the store or for want of memory
abbrev pub IsOfRows : OpenFault → Type 0
IsOfRows fault = SaysNot fault ⊥

-- what a refusal says of the row of the office, which should have this version
abbrev pub TellsOffice : OpenFault → ℕ → State → Type 0
TellsOffice opening.NotPortal of s = ShowsOffice s []
TellsOffice opening.OtherVersion of s = ShowsOther of s
TellsOffice opening.Damaged of s = ⊥
TellsOffice opening.Store of s = Unit {0}
TellsOffice opening.Memory of s = Unit {0}

-- the tables stand so after Ok, and do not after `Damaged`
abbrev pub Judges : {V : Type 0} → Result V OpenFault → Type 0 → Type 0
Judges (Ok v) so = so
Judges (Err fault) so = fault ≡ opening.Damaged → so → ⊥

-- row numbers of the tables of many rows differ
abbrev pub NumbersDiffer : Trees → Type 0
NumbersDiffer = AllNumbersDiffer (early_trees ++ later_trees)

-- the lists of the tables' rounds are whole, and their world is good
pub record IsJudged (db : Trees) : Type 0 where
  pub office : HasOffice version (db portal_tree)
  pub whole : AreWhole (round_in db) db
  pub good : Good (world_of db)

-- row numbers of the first round's tables differ, and as tables of this version they stand for a
-- good world
pub record AdmitsAs (of : ℕ) (db : Trees) : Type 0 where
  pub apart : AllNumbersDiffer first_trees db
  pub stands : HasGoodFirst of db

-- the same of the tables of both rounds
pub record Admits (db : Trees) : Type 0 where
  pub apart : AllNumbersDiffer own_trees db
  pub stands : HasGoodWorld db
