-- The tables as `create` makes them stand for the empty world in setup.
use Rattle.portal_store.proofs.Base.{◌≡◌, ◌≢◌, ℕ, Bool, IsTrue, List, [], ◌∷◌, true, false, not, eqb, refl}
use Rattle.portal_store.proofs.Base.{slice_index_or, map, sym, subst, ◌∙◌, AllByRecursion, list_all, Row, column, bytes}
use Rattle.portal_store.proofs.Base.{Database, Ghosts, Held, state, number_in, Setup, First, is_code, Key, put_all}
use Rattle.portal_store.proofs.Base.{lecturer_key, project_key, student_key, Good, portal_tree, second_tree, IsFresh}
use Rattle.portal_store.proofs.Base.{Commits, others_are, parts_of, current_own, world_in, world_of, phase_numbered}
use Rattle.portal_store.proofs.Base.{project_row, IsConsistent, IsConsistentIn, later_trees, IsKept, early_trees}
use Rattle.portal_store.proofs.Base.{no_schema, Creates, own_made, first_world, HasCleanDisk, LeavesOnly}
use Rattle.portal_tables.proofs.Fresh.{fresh_apart}
use Rattle.portal_list.proofs.Fresh.{fresh_good}
use Rattle.portal_store.proofs.FirstRows.{lecturer_of_cells, student_of}
use Rattle.portal_store.proofs.Rounds.{world_told}

none : (P : Row → Type 0) (rows : List Row) → rows ≡ [] → AllByRecursion P rows
none P rows is = subst (AllByRecursion P) (sym is) tt

module _ (office : Key) (db : Database) (f : IsFresh office db) where
  -- all tables but `portal` and `second` are empty
  parts : AllByRecursion (λ t. t ≢ portal_tree → t ≢ second_tree → db.trees t ≡ []) early_trees
      × AllByRecursion (λ t. t ≢ portal_tree → t ≢ second_tree → db.trees t ≡ []) (second_tree ∷ later_trees)
  parts = parts_of (λ t. t ≢ portal_tree → t ≢ second_tree → db.trees t ≡ []) early_trees (second_tree ∷ later_trees) f.others.1

  empty : (trees : List ℕ) → list_all (λ t. not (eqb t portal_tree)) trees ≡ true
      → list_all (λ t. not (eqb t second_tree)) trees ≡ true
      → AllByRecursion (λ t. t ≢ portal_tree → t ≢ second_tree → db.trees t ≡ []) trees → AllByRecursion (λ t. db.trees t ≡ []) trees
  empty trees p s all = others_are (λ t. db.trees t ≡ []) second_tree trees s
      (others_are (λ t. t ≢ second_tree → db.trees t ≡ []) portal_tree trees p all)

  firsts : AllByRecursion (λ t. db.trees t ≡ []) early_trees
  firsts = empty early_trees refl refl parts.0

  held_first : IsConsistentIn First db
  held_first = record {
    current = own_made db.schema f.schema_is;
    own = current_own db.schema (own_made db.schema f.schema_is);
    sound = f.sound;
    apart = fresh_apart office db f;
    office = record { phase = Setup; office = office; is = f.row };
    second = record { is = f.second; says = empty later_trees refl refl parts.1.1 };
    whole = record {
      choices = none _ (db.trees 6) firsts.1.1.0;
      rankings = none _ (db.trees 1) firsts.0;
      ranked = none _ (db.trees 1) firsts.0;
    };
  }

  pub first_holds : IsConsistent db
  first_holds = (First, held_first)

  in_first : world_in First db.trees ≡ first_world office
  unfolding world_in
  in_first = λ i. record {
    round = First;
    phase = phase_numbered (number_in (column (slice_index_or (f.row i) 0 []) 3));
    office = bytes (column (slice_index_or (f.row i) 0 []) 4);
    lecturers = put_all lecturer_key (map (lecturer_of_cells (db.trees 12)) (firsts.0 i)) [];
    projects = put_all project_key (map project_row (firsts.1.0 i)) [];
    students = put_all student_key (map (student_of (db.trees 9)) (firsts.1.1.0 i)) [];
  }

  pub first_is : world_of db.trees ≡ first_world office
  first_is = world_told First db.trees held_first.second ∙ in_first

  pub first_is_good : IsTrue (is_code office) → Good (world_of db.trees)
  first_is_good form = subst Good (sym first_is) (fresh_good office form)

-- a store over them
pub first_kept : {S : Type 0} (g : Ghosts S) (office : Key) (own : Bool) (old new : Held S) → new.in_transaction ≡ false
    → (IsTrue own → old.schema ≡ no_schema) → (IsTrue (state g new).is_open → HasCleanDisk (state g new))
    → (HasCleanDisk (state g new) → Commits (Creates office) (state g old) (state g new))
    → (HasCleanDisk (state g new) → LeavesOnly (state g new)) → IsKept g new own
first_kept g office own old new idle none_before shut did only = record {
  idle = idle;
  ready = λ mine on.
      let made = did (shut on) in
      record { settled = made.settled; holds = first_holds office (state g new).now (made.changed (none_before mine)) };
  left = λ mine clean db may. (
    (state g new).now,
    only clean db may,
    first_holds office (state g new).now ((did clean).changed (none_before mine)),
  );
}
