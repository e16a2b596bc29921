-- What making and upgrading the tables leaves.
use Rattle.std.proofs.Common.{◌≡◌, true, false, List, IsTrue, ◌⊎◌, inl, inr, refl, sym, ap, subst, ◌∙◌}
use Rattle.std.proofs.lemmas.Bool.{both_ways}
use Rattle.std.proofs.Math.Logic.{∥∥₁_elim}
use Rattle.sqlite.specs.Store.{Ghosts}
use Rattle.sqlite.specs.Held.{Held, state}
use Rattle.sqlite.specs.State.{HasCleanDisk, State, Survives}
use Rattle.sqlite.specs.Tree.{Trees}
use Rattle.portal_rules.specs.World.{World}
use Rattle.portal_rules.specs.Good.{Good}
use Rattle.portal_tables.specs.Tables.{IsFirstSchema, first_schema, no_schema, portal_schema}
use Rattle.portal_tables.specs.Making.{has_names}
use Rattle.portal_tables.specs.declared.sql.names.Names.{Names}
use Rattle.portal_tables.specs.declared.sql.names.Names.TheVariants.{All, OfSecond}
use Rattle.std.specs.List.{list_any}
use Rattle.std.specs.Prelude.{◌||◌}
use Rattle.portal_tables.specs.inner.Named.{is_named_table, is_named_view}
use Rattle.portal_tables.specs.inner.Schema.{first_written, portal_written}
use Rattle.portal_tables.proofs.Named.{named_is}
use Rattle.portal_tables.proofs.Base.{everything}
use Rattle.portal_tables.proofs.Defined.{first_as_written, portal_as_written}
use Rattle.portal_store.specs.Crash.{IsUpgradedFrom, LeavesUpgraded}
use Rattle.portal_store.specs.Kept.{StoreState, IsCleanStore, kept_world}
use Rattle.portal_store.specs.World.{first_world, world_of}
use Rattle.portal_store.specs.Calls.{CreatesStore, UpgradesStore}
use Rattle.portal_store.proofs.Upgraded.{named_as}
use Rattle.sqlite.specs.Schema.{Schema}
use Rattle.sqlite.specs.Effect.{Database}
use Rattle.portal_file.specs.Tables.{Stands, First, Current, Either}
use Rattle.portal_file.specs.inner.Connected.{AllStand, TreesStand, ClosesAs, Shows}
use Rattle.portal_file.proofs.Served.{closed_world, no_proof, stands_by}

-- tables of version 1 that were upgraded
pub same_world : {S : Type 0} (g : Ghosts S) (old new : Held S) (made : StoreState S) → ClosesAs g made new
    → UpgradesStore g old made
    → HasCleanDisk (state g new) → (w : World) → Shows First (state g old) w
    → AllStand Current (state g new).may_leave (λ v. v ≡ w)
same_world g old new made closes is clean w shows db may =
    ∥∥₁_elim shows.stands squash₁ (λ first.
    let done = is.commits (subst (λ h. HasCleanDisk (state g h)) closes.same clean) in
    let on : IsCleanStore g made = (is.makes.own.1 first.schema, done.is_open) in
    let same : kept_world g made ≡ w = is.world on ∙ first.world in
    closed_world g made new closes on w same (subst Good same (is.makes.good on)) db may)

-- tables that were made where there were none
pub fresh_world : {S : Type 0} (g : Ghosts S) (old new : Held S) (made : StoreState S) (office : List _) → ClosesAs g made new
    → CreatesStore g office old made
    → old.schema ≡ no_schema → HasCleanDisk (state g new) → Good (first_world office)
    × AllStand Current (state g new).may_leave (λ v. v ≡ first_world office)
fresh_world g old new made office closes is none clean =
    let done = is.commits (subst (λ h. HasCleanDisk (state g h)) closes.same clean) in
    let on : IsCleanStore g made = (is.makes.own.1 none, done.is_open) in
    let fine = subst Good (is.world on) (is.makes.good on) in
    (fine, closed_world g made new closes on (first_world office) (is.world on) fine)

-- which names are taken in the portal's own tables

current_computed : (names : Names)
    → (list_any (is_named_table names) portal_written.tables || list_any (is_named_view names) portal_written.views) ≡ true
unfolding everything
current_computed All = refl
current_computed OfSecond = refl

current_named : (names : Names) → has_names names portal_schema ≡ true
current_named names = ap (has_names names) portal_as_written ∙ sym (named_is names portal_written) ∙ current_computed names

first_computed : (list_any (is_named_table All) first_written.tables || list_any (is_named_view All) first_written.views) ≡ true
unfolding everything
first_computed = refl

first_named : has_names All first_schema ≡ true
first_named = ap (has_names All) first_as_written ∙ sym (named_is All first_written) ∙ first_computed

none_named : has_names All no_schema ≡ false
unfolding everything
none_named = refl

-- no name is taken in an empty schema
pub none_taken : (s : Schema) → s ≡ no_schema → IsTrue (has_names All s) → ⊥
none_taken s none taken = both_ways _ (ap (has_names All) none ∙ none_named) taken

-- over them no tables are made
none_free_in : (db : Database) (w : World) → Stands Either db w → IsTrue (has_names All db.schema)
none_free_in db w (inl current) = named_as All db.schema portal_schema current.schema ∙ current_named All
none_free_in db w (inr first) = named_as All db.schema first_schema first.schema ∙ first_named

pub none_free : {S : Type 0} (g : Ghosts S) (old : Held S) (w : World) → Stands Either (state g old).now w
    → IsTrue (has_names All old.schema)
none_free g old w = none_free_in (state g old).now w

-- an empty schema shows no world
pub shows_none : (s : State) (w : World) → s.now.schema ≡ no_schema → Shows Either s w → ⊥
shows_none s w none shows = ∥∥₁_elim shows.stands no_proof (λ stands. none_taken s.now.schema none (none_free_in s.now w stands))

-- tables of version 2 have the names that an upgrade needs
pub current_taken : {S : Type 0} (g : Ghosts S) (old : Held S) (w : World) → has_names OfSecond old.schema ≡ false
    → Shows Current (state g old) w → ⊥
current_taken g old w free shows =
    ∥∥₁_elim shows.stands no_proof (λ stands. both_ways _ free
    (named_as OfSecond old.schema portal_schema stands.schema ∙ current_named OfSecond))

-- an upgrade leaves those of version 2 as they are, and those of version 1 with the same world
pub upgrade_leaves : (old new : State) → Survives old new (LeavesUpgraded old)
    → (IsFirstSchema old.now.schema → Survives old new (IsUpgradedFrom old.now.trees))
    → HasCleanDisk new → (w : World) → Stands Either old.now w → (db : Trees) → new.may_leave db
    → old.may_leave db ⊎ TreesStand Either db w
upgrade_leaves old new upgrades left clean w (inl current) db may = elim (upgrades.crash clean db may) [
  | inl was ↦ inl was
  | inr made ↦ absurd (both_ways _ made.0 (named_as OfSecond old.now.schema portal_schema current.schema ∙ current_named OfSecond))
]
upgrade_leaves old new upgrades left clean w (inr first) db may = elim ((left first.schema).crash clean db may) [
  | inl was ↦ inl was
  | inr up ↦
      inr (
        up.after,
        sym up.trees,
        inl (stands_by up.after w up.holds (subst Good first.world first.stands.good)
            (ap world_of (sym up.trees) ∙ up.world ∙ first.world)),
      )
]
