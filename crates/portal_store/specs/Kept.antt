-- What a store keeps true between calls, and what a change of the world does to the tables.
use Rattle.portal_store.specs.Base.{Trees, Database, IsDatabase, Phase, Published, Round, First, Second, World}
use Rattle.portal_store.specs.Base.{is_setup, Change, changed, Good, tree_of, portal_tree, lecturer_tree, student_tree}
use Rattle.portal_store.specs.Base.{second_tree, later_trees, own_trees, version, HasFirstSchema, IsCurrentSchema}
use Rattle.portal_store.specs.Base.{RowNumbersDiffer, row_key, second_row, HasOffice, number_of_phase, of_key, IsWhole}
use Rattle.portal_store.specs.Base.{choice_table, ranking_table}
use Rattle.std.specs.Prelude.{◌≡◌, ◌⊎◌, ℕ, pos, ◌+◌, ◌-◌, ◌^◌, ◌≤◌, min, Bool, false, [], ◌∷◌, IsTrue}
use Rattle.std.specs.List.{AllByRecursion}
use Rattle.sqlite.specs.State.{State, HasCleanDisk}
use Rattle.sqlite.specs.Store.{Ghosts}
use Rattle.sqlite.specs.Held.{Held, state}
use Rattle.sqlite.specs.Steps.{over_memory}
use Rattle.sqlite_trees.specs.declared.memory.MemStore.{MemStore}
use Rattle.portal_rules.specs.Keeping.{KeeperState}
use Rattle.portal_store.specs.World.{world_in, world_of, is_ranked, phase_in}

-- in a round no list has a gap, and a lecturer without a ranking has no rows of one
pub record Whole (round : Round) (db : Trees) : Type 0 where
  pub choices : AllByRecursion (λ r. IsWhole (of_key (row_key r) (db (tree_of (choice_table round))))) (db student_tree)
  pub rankings : AllByRecursion (λ r. IsWhole (of_key (row_key r) (db (tree_of (ranking_table round)))))
      (db lecturer_tree)
  pub ranked : AllByRecursion (λ r. is_ranked round db r ≡ false
      → of_key (row_key r) (db (tree_of (ranking_table round))) ≡ []) (db lecturer_tree)

-- the row of `second` says that there is no second round, and there are no lists, rankings or
-- placements of one
pub record IsUnopened (db : Trees) : Type 0 where
  pub is : db second_tree ≡ second_row (pos 0) ∷ []
  pub says : AllByRecursion (λ t. db t ≡ []) later_trees

-- the row of `second` has the phase of a second round, and the first round is published
pub record IsOpened (db : Trees) : Type 0 where
  pub phase : Phase
  pub is : db second_tree ≡ second_row (pos (number_of_phase phase)) ∷ []
  pub opened : is_setup phase ≡ false
  pub first : phase_in First db ≡ Published

abbrev pub HasSecond : Round → Trees → Type 0
HasSecond First db = IsUnopened db
HasSecond Second db = IsOpened db

-- no list of the rounds so far has a gap
abbrev pub AreWhole : Round → Trees → Type 0
AreWhole First db = Whole First db
AreWhole Second db = Whole First db × Whole Second db

-- the first round's tables have this schema version and stand for a good world
pub record HasGoodFirst (of : ℕ) (db : Trees) : Type 0 where
  pub office : HasOffice of (db portal_tree)
  pub whole : Whole First db
  pub good : Good (world_in First db)

-- the tables stand for a good world of the round
pub record HasGoodWorldIn (round : Round) (db : Trees) : Type 0 where
  pub office : HasOffice version (db portal_tree)
  pub second : HasSecond round db
  pub whole : AreWhole round db
  pub good : Good (world_in round db)

-- the tables stand for a good world of either round
abbrev pub HasGoodWorld : Trees → Type 0
HasGoodWorld db = (round : Round) × HasGoodWorldIn round db

-- what each change in a round may rely on
pub record IsConsistentIn (round : Round) (db : Database) : Type 0 where
  pub current : IsCurrentSchema db.schema
  pub own : HasFirstSchema db.schema
  pub sound : IsDatabase db
  pub apart : AllByRecursion (λ t. RowNumbersDiffer (db.trees t)) own_trees
  pub office : HasOffice version (db.trees portal_tree)
  pub second : HasSecond round db.trees
  pub whole : AreWhole round db.trees

-- what each change may rely on, and leaves true
abbrev pub IsConsistent : Database → Type 0
IsConsistent db = (round : Round) × IsConsistentIn round db

-- the tables now stand for the changed world
pub record HasChanged (change : Change) (old new : Database) : Type 0 where
  pub holds : IsConsistent new
  pub world : world_of new.trees ≡ changed (world_of old.trees) change

-- the tables change as the world does, if the worlds before and after are good
abbrev pub IsTransition : Change → Database → Database → Type 0
IsTransition change old new =
    IsConsistent old → Good (world_of old.trees) → Good (changed (world_of old.trees) change)
    → HasChanged change old new

-- the state of a store; `own` says that the tables are the portal's, `faults` counts store faults
pub record StoreState (S : Type 0) : Type 0 where
  pub conn : Held S
  pub own : Bool
  pub faults : ℕ

-- the tables are the portal's own, and the connection is open, so that it shows what the disk has
abbrev pub IsCleanStore : {S : Type 0} → Ghosts S → StoreState S → Type 0
IsCleanStore g s = IsTrue s.own × IsTrue (state g s.conn).is_open

-- the disk has failed once more; the count of its failures stops at the greatest `u64`
abbrev pub HasFailed : State → State → Type 0
HasFailed old new = min (old.faults + 1) (2 ^ 64 - 1) ≤ new.faults

-- a clean store stays clean, if the disk returns what was written and does not fail
abbrev pub Lasts : {S : Type 0} → Ghosts S → StoreState S → StoreState S → Type 0
Lasts g old new =
    HasCleanDisk (state g new.conn) → IsCleanStore g old → IsCleanStore g new
    ⊎ HasFailed (state g old.conn) (state g new.conn)

abbrev pub kept_world : {S : Type 0} → Ghosts S → StoreState S → World
kept_world g s = world_of (state g s.conn).now.trees

-- a clean store in memory stays clean, since there is no disk that could fail
abbrev pub LastsInMemory : Type 0
LastsInMemory =
    (old new : StoreState MemStore) → Lasts over_memory old new → IsCleanStore over_memory old → IsCleanStore over_memory new

-- the disk of a store has returned what was written so far
abbrev pub HasDisk : {S : Type 0} → Ghosts S → StoreState S → Type 0
HasDisk g s = HasCleanDisk (state g s.conn)

-- the disk of a store in memory is always clean, since there is none
abbrev pub DiskInMemory : Type 0
DiskInMemory = (s : StoreState MemStore) → HasDisk over_memory s

-- the disk has failed, and the connection to the portal's own tables is shut
pub record IsBrokenStore {S : Type 0} (g : Ghosts S) (s : StoreState S) : Type 0 where
  pub own : IsTrue s.own
  pub shut : (state g s.conn).is_open ≡ false
  pub failed : 1 ≤ (state g s.conn).faults

-- the trees are those of a database that each change may rely on
abbrev pub AreConsistent : Trees → Type 0
AreConsistent db = (d : Database) × (db ≡ d.trees) × IsConsistent d

-- whatever a stop may leave of the portal's own database is consistent
abbrev pub LeavesConsistent : {S : Type 0} → Ghosts S → StoreState S → Type 0
LeavesConsistent g s = IsTrue s.own → HasDisk g s → (db : Trees) → (state g s.conn).may_leave db → AreConsistent db

-- a stop may leave the tables of this world in the portal's own database
pub record LeavesWorld {S : Type 0} (g : Ghosts S) (s : StoreState S) (w : World) : Type 0 where
  pub own : IsTrue s.own
  pub db : Trees
  pub left : (state g s.conn).may_leave db
  pub world : w ≡ world_of db

-- what contracts of keepers say of a store
abbrev pub kept_state : {S : Type 0} → Ghosts S → StoreState S → KeeperState
kept_state g s = record {
  world = kept_world g s;
  clean = IsCleanStore g s;
  disk = HasDisk g s;
  broken = IsBrokenStore g s;
  leaves = LeavesWorld g s;
  faults = s.faults;
}

-- a store in memory never breaks, since there is no disk that could fail
abbrev pub UnbrokenInMemory : Type 0
UnbrokenInMemory = (s : StoreState MemStore) → IsBrokenStore over_memory s → ⊥
