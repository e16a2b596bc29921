-- What a store keeps true between two calls, and what a change of the world is to the tables.
use Rattle.std.specs.Prelude.{◌≡◌, ℕ, Bool, false, List, [], ◌∷◌, Option, IfSome, IsTrue, refl}
use Rattle.std.specs.List.{AllByRecursion}
use Rattle.std.specs.Coded.{Coded, code_by, coded×, coded_bool, coded_ℕ}
use Rattle.sqlite.specs.Effect.{Database}
use Rattle.sqlite.specs.State.{State, HasCleanDisk}
use Rattle.sqlite.specs.Tree.{Trees}
use Rattle.sqlite.specs.Store.{Ghosts}
use Rattle.sqlite.specs.Held.{Held, held_code, state}
use Rattle.portal_rules.specs.declared.phase.Round.{Round}
use Rattle.portal_rules.specs.World.{World, Change, changed}
use Rattle.portal_rules.specs.Good.{Good}
use Rattle.portal_store.specs.inner.ViewCache.{IsCacheOf}
use Rattle.portal_store.specs.declared.reading.view_cache.ViewCache.{ViewCache}
use Rattle.portal_list.specs.Rows.{AllEntries, HasEntries}
use Rattle.portal_tables.specs.Tables.{lecturer_tree, project_tree, student_tree, choice_tree, later_trees}
use Rattle.portal_tables.specs.Tables.{ranking_tree}
use Rattle.portal_tables.specs.Rows.{RowNumbersDiffer}
use Rattle.portal_store.specs.World.{world_in, world_of}
use Rattle.portal_store.specs.Kept.{AreConsistent, HasDisk, IsCleanStore, IsConsistentIn, IsConsistent, StoreState}

-- the tables of many rows: the rolls and the lists of the first round, and the lists and places of
-- the second
abbrev pub early_trees : List ℕ
early_trees = lecturer_tree ∷ project_tree ∷ student_tree ∷ choice_tree ∷ ranking_tree ∷ []

-- there are no lists, rankings or placements of a second round
abbrev pub AreEmpty : Trees → Type 0
AreEmpty db = AllByRecursion (λ t. db t ≡ []) later_trees

-- the row numbers differ within each of these tables
abbrev pub AllNumbersDiffer : List ℕ → Trees → Type 0
AllNumbersDiffer trees db = AllByRecursion (λ t. RowNumbersDiffer (db t)) trees

-- if the disk is clean after a call, it was before, and then a clean store stayed clean
abbrev pub KeepsClean : {S : Type 0} → Ghosts S → StoreState S → StoreState S → Type 0
KeepsClean g old new = HasDisk g new → HasDisk g old × (IsCleanStore g old → IsCleanStore g new)

-- the same of tables that stay in their round
pub record HasChangedIn (round : Round) (change : Change) (old new : Database) : Type 0 where
  pub holds : IsConsistentIn round new
  pub world : world_in round new.trees ≡ changed (world_in round old.trees) change

abbrev pub IsTransitionIn : Round → Change → Database → Database → Type 0
IsTransitionIn round change old new =
    IsConsistentIn round old → Good (world_in round old.trees) → Good (changed (world_in round old.trees) change) → HasChangedIn round change old new

-- a change of tables of this round, whatever round it leaves
pub record HasChangedFrom (round : Round) (change : Change) (old new : Database) : Type 0 where
  pub holds : IsConsistent new
  pub world : world_of new.trees ≡ changed (world_in round old.trees) change

abbrev pub IsTransitionFrom : Round → Change → Database → Database → Type 0
IsTransitionFrom round change old new =
    IsConsistentIn round old → Good (world_in round old.trees) → Good (changed (world_in round old.trees) change) → HasChangedFrom round change old new

abbrev pub seen_code : {S : Type 0} → Coded S → Coded (StoreState S)
seen_code {S} store =
    code_by (Held S × (Bool × ℕ)) (coded× (held_code store) (coded× coded_bool coded_ℕ)) (λ s. (s.conn, (s.own, s.faults)))
    (λ p. record { conn = p.0; own = p.1.0; faults = p.1.1 })
    (λ _. refl)

-- all is committed
pub record IsReady (s : State) : Type 0 where
  pub settled : s.committed ≡ s.now
  pub holds : IsConsistent s.now

pub record IsKept {S : Type 0} (g : Ghosts S) (conn : Held S) (own : Bool) : Type 0 where
  pub idle : conn.in_transaction ≡ false
  pub ready : IsTrue own → IsTrue (state g conn).is_open → IsReady (state g conn)
  -- also where the connection is shut
  pub left : IsTrue own → HasCleanDisk (state g conn) → (db : Trees) → (state g conn).may_leave db → AreConsistent db

-- the entries, if there are any, are the world's
abbrev pub AreEntries : Option AllEntries → World → Type 0
AreEntries entries w = IfSome entries (λ e. HasEntries e w)

-- a store between two calls; what it remembers is of its world
pub record IsAtRest {S : Type 0} (g : Ghosts S) (conn : Held S) (own : Bool) (cache : ViewCache) (entries : Option AllEntries) : Type 0 where
  pub kept : IsKept g conn own
  pub shown : IsTrue own × IsTrue (state g conn).is_open → IsCacheOf cache (world_of (state g conn).now.trees)
  pub entered : IsTrue own × IsTrue (state g conn).is_open → AreEntries entries (world_of (state g conn).now.trees)
