-- Tables of version 1 that were upgraded stand for the world that they stood for.
use Rattle.portal_store.proofs.Base.{◌≡◌, pos, Bool, false, ◌||◌, IsTrue, List, [], ◌∷◌, slice_index_or, refl, sym, ap}
use Rattle.portal_store.proofs.Base.{subst, ◌∙◌, AllByRecursion, list_any, column, bytes, Database, Ghosts, Held, state}
use Rattle.portal_store.proofs.Base.{number_in, with_tree, First, Good, portal_tree, first_trees, version}
use Rattle.portal_store.proofs.Base.{first_version, IsFirstSchema, Upgrades, has_names, OfSecond, HasOffice}
use Rattle.portal_store.proofs.Base.{number_of_phase, portal_row, apart_one, current_own, world_in, world_of}
use Rattle.portal_store.proofs.Base.{phase_numbered, IsConsistentIn, IsUnopened, HasGoodWorld, HasGoodFirst, IsKept}
use Rattle.portal_store.proofs.Base.{AdmitsAs, AllZip, first_schema, SameTable, Upgraded}
use Rattle.portal_store.proofs.Base.{has_name, stands_for_table, HasCleanDisk, IsConsistent, State, Survives, IsAfter}
use Rattle.portal_store.proofs.Base.{clean_before, survives_then, IsUpgradedFrom, LeavesUpgraded, HasEntries}
use Rattle.sqlite_trees.specs.Tree.{Trees}
use Rattle.sqlite.specs.Table.{Table}
use Rattle.sqlite.specs.Schema.{Schema}
use Rattle.sqlite_tied.specs.Compute.{everything}
use Rattle.portal_tables.specs.Tables.{SameSchema}
use Rattle.sqlite_schema.specs.declared.schema.View.{View}
use Rattle.std.specs.Prelude.{◌&&◌}
use Rattle.portal_tables.specs.inner.Named as named
use Rattle.portal_tables.specs.inner.Schema.{first_written}
use Rattle.portal_tables.proofs.Named.{named_is}
use Rattle.portal_tables.proofs.Defined.{first_as_written}
use Rattle.portal_tables.specs.declared.sql.names.Names.{Names}
use Rattle.portal_list.specs.Rows.{AllEntries}
use Rattle.portal_store.specs.inner.Upgrading.{UpgradesWithEntries}
use Rattle.portal_store.proofs.Asked.{apart_all}
use Rattle.portal_store.proofs.Rounds.{world_told}
use Rattle.portal_store.proofs.Still.{apart_among, one_among, whole_first, world_first}

module _ (old new : Database) (office : HasOffice first_version (old.trees portal_tree))
    (up : Upgraded (pos (number_of_phase office.phase)) office.office old new) where
  -- the first round's tables, with the new row of the office
  abbrev there : Trees
  there = with_tree old.trees portal_tree (new.trees portal_tree)

  same : AllByRecursion (λ t. new.trees t ≡ there t) first_trees
  same = one_among first_trees portal_tree old.trees new.trees up.others

  pub upgraded_world : world_in First new.trees ≡ world_in First old.trees
  unfolding world_in
  upgraded_world =
      let phases : column (slice_index_or (new.trees 0) 0 []) 3 ≡ column (slice_index_or (old.trees 0) 0 []) 3 =
      ap (λ rows. column (slice_index_or rows 0 []) 3) up.portal ∙ sym (ap (λ rows. column (slice_index_or rows 0 []) 3) office.is) in
      let codes : column (slice_index_or (new.trees 0) 0 []) 4 ≡ column (slice_index_or (old.trees 0) 0 []) 4 =
      ap (λ rows. column (slice_index_or rows 0 []) 4) up.portal ∙ sym (ap (λ rows. column (slice_index_or rows 0 []) 4) office.is) in
      world_first there new.trees same ∙ (λ i. record
      (world_in First old.trees) { phase = phase_numbered (number_in (phases i)); office = bytes (codes i) })

  pub second : IsUnopened new.trees
  second = record { is = up.second; says = up.empty }

  first_stands : HasGoodFirst first_version old.trees → HasGoodFirst version new.trees
  first_stands was = record {
    office = record { phase = office.phase; office = office.office; is = up.portal };
    whole = whole_first there new.trees same
        (record { choices = was.whole.choices; rankings = was.whole.rankings; ranked = was.whole.ranked });
    good = subst Good (sym upgraded_world) was.good;
  }

  admits : AdmitsAs first_version old.trees → AdmitsAs version new.trees
  admits was = record {
    apart = apart_among first_trees portal_tree old.trees new.trees up.others
        (apart_one (new.trees 0) (portal_row (pos version) (pos (number_of_phase office.phase)) office.office)
        (pos 1) refl up.portal) was.apart;
    stands = first_stands was.stands;
  }

  upgraded_holds : AdmitsAs first_version old.trees → IsConsistentIn First new
  upgraded_holds was = record {
    current = up.current;
    own = current_own new.schema up.current;
    sound = up.sound;
    apart = apart_all new.trees version (admits was) second;
    office = record { phase = office.phase; office = office.office; is = up.portal };
    second = second;
    whole = (admits was).stands.whole;
  }

pub upgraded_stands : (old new : Database) (was : HasGoodFirst first_version old.trees)
    → Upgraded (pos (number_of_phase was.office.phase)) was.office.office old new → HasGoodWorld new.trees
upgraded_stands old new was up =
    let first = first_stands old new was.office up was in
    (First, record { office = first.office; second = second old new was.office up; whole = first.whole; good = first.good })

upgraded_from : (old after : Database) (db : Trees) → IsFirstSchema old.schema → AdmitsAs first_version old.trees
    → Upgrades old after → db ≡ after.trees → IsUpgradedFrom old.trees db
upgraded_from old after db first was upgrades is =
    let office = was.stands.office in
    let up = upgrades first _ _ office.is in
    record {
      after = after;
      trees = is;
      holds = (First, upgraded_holds old after office up was);
      world = ap world_of is ∙ world_told First after.trees (second old after office up) ∙ upgraded_world old after office up;
    }

-- what a crash leaves of tables that were looked at and then perhaps upgraded
module _ (old mid new : State) (looks : Survives old mid (λ _. ⊥)) (upgrades : Survives mid new (IsAfter Upgrades mid)) where
  pub leaves_upgraded : has_names OfSecond old.now.schema ≡ false
      → (IsFirstSchema old.now.schema → HasCleanDisk mid → mid.now ≡ old.now) → Survives old new (LeavesUpgraded old)
  leaves_upgraded free same =
      survives_then old mid new _ _ (LeavesUpgraded old) (λ clean db no. absurd no)
      (λ clean db left. (
        free,
        (
          left.0,
          λ first. subst (λ (d : Database). Upgrades d left.0)
              (same first (clean_before mid new _ upgrades clean)) left.1 first,
          left.2,
        ),
      )) looks upgrades

  pub leaves_world : IsFirstSchema old.now.schema
      → (HasCleanDisk mid → (mid.now ≡ old.now) × AdmitsAs first_version old.now.trees)
      → Survives old new (IsUpgradedFrom old.now.trees)
  leaves_world first known =
      survives_then old mid new _ _ (IsUpgradedFrom old.now.trees) (λ clean db no. absurd no)
      (λ clean db left.
      let k = known (clean_before mid new _ upgrades clean) in
      upgraded_from old.now left.0 db first k.1 (subst (λ (d : Database). Upgrades d left.0) k.0 left.1) left.2) looks upgrades

-- a schema has the names of the portal's tables that its pattern has: the six have none of the second round's

abbrev is_named_table : Names → Table → Bool
is_named_table names t = has_name names t.name

abbrev is_named_view : Names → View → Bool
is_named_view names v = has_name names v.name && stands_for_table v.name v.foreign

named_alike : (names : Names) (ts us : List Table) → AllZip SameTable ts us
    → list_any (is_named_table names) ts ≡ list_any (is_named_table names) us
named_alike names [] [] h = refl
named_alike names (t ∷ ts) (u ∷ us) h = λ i. has_name names ((h.0 i).name) || named_alike names ts us h.1 i
named_alike names ts us h = absurd h

pub named_as : (names : Names) (s pattern : Schema) → SameSchema s pattern → has_names names s ≡ has_names names pattern
named_as names s pattern h = λ i. named_alike names s.tables pattern.tables h.tables i || list_any (is_named_view names) (h.views i)

none_computed : (list_any (named.is_named_table OfSecond) first_written.tables || list_any
    (named.is_named_view OfSecond) first_written.views) ≡ false
unfolding everything
none_computed = refl

pub first_untaken : (s : Schema) → IsFirstSchema s → has_names OfSecond s ≡ false
first_untaken s h = named_as OfSecond s first_schema h ∙ ap (has_names OfSecond) first_as_written ∙ sym (named_is OfSecond first_written)
    ∙ none_computed

-- a store over them
module _
    {S : Type 0}
    (g : Ghosts S)
    (own : Bool)
    (entries : AllEntries)
    (old new : Held S)
    (is_first : IsTrue own → IsFirstSchema old.schema)
    (up : UpgradesWithEntries g entries old new) where
  made : (mine : IsTrue own) (clean : HasCleanDisk (state g new))
      → Upgraded (pos (number_of_phase (up.admitted (is_first mine) clean).stands.office.phase))
      (up.admitted (is_first mine) clean).stands.office.office (state g old).now (state g new).now
  made mine clean = let first = is_first mine in (up.commits clean).changed first _ _ (up.admitted first clean).stands.office.is

  holds : IsTrue own → HasCleanDisk (state g new) → IsConsistent (state g new).now
  holds mine clean =
      let was = up.admitted (is_first mine) clean in
      (First, upgraded_holds (state g old).now (state g new).now was.stands.office (made mine clean) was)

  pub upgraded_kept : (IsTrue (state g new).is_open → HasCleanDisk (state g new)) → IsKept g new own
  upgraded_kept shut = record {
    idle = up.idle;
    ready = λ mine on. record { settled = (up.commits (shut on)).settled; holds = holds mine (shut on) };
    left = λ mine clean db may. ((state g new).now, up.durable clean db may, holds mine clean);
  }

  pub same_world : IsTrue own → HasCleanDisk (state g new)
      → world_of (state g new).now.trees ≡ world_in First (state g old).now.trees
  same_world mine clean =
      let office = (up.admitted (is_first mine) clean).stands.office in
      world_told First (state g new).now.trees (second (state g old).now (state g new).now office (made mine clean))
      ∙ upgraded_world (state g old).now (state g new).now office (made mine clean)

  pub still_good : IsTrue own → HasCleanDisk (state g new) → Good (world_of (state g new).now.trees)
  still_good mine clean = subst Good (sym (same_world mine clean)) (up.admitted (is_first mine) clean).stands.good

  pub still_entered : IsTrue own → HasCleanDisk (state g new) → HasEntries entries (world_of (state g new).now.trees)
  still_entered mine clean = subst (HasEntries entries) (sym (same_world mine clean)) (up.entered (is_first mine) clean)
