-- What is promised of a store that was made, and of a connection that is handed back.
use Rattle.portal_store.proofs.Base.{◌≡◌, ◌≢◌, ◌↔◌, ◌∙◌, Bool, IsTrue, false, refl, sym, ap, subst, Trees, Database}
use Rattle.portal_store.proofs.Base.{HasCleanDisk, IsUnchanged, IsLive, Survives, Ghosts, Held, state, Key, is_code}
use Rattle.portal_store.proofs.Base.{Good, HasFirstSchema, IsCurrentSchema, IsFirstSchema, first_version, no_schema}
use Rattle.portal_store.proofs.Base.{version, Creates, IsFresh, has_names, Commits, IsAfter, LeavesOnly, IsCommitted}
use Rattle.portal_store.proofs.Base.{OnlyLooks, HasGoodFirst, IsCleanStore, StoreState, world_of, OpenFault}
use Rattle.portal_store.proofs.Base.{HasVersion, IsUpgradedFrom, LeavesUpgraded, IsTrueOfTables, IsTrueOfOpening, IsKept, Admits}
use Rattle.portal_store.proofs.Base.{[], survives_weaker, Ok, Second, ReadsOr, NoFault, GivesOrFails, HasEntries, IsSoundIfOpen}
use Rattle.portal_store.proofs.Base.{SaysNothing, State}
use Rattle.portal_list.specs.Rows.{AllEntries}
use Rattle.portal_tables.proofs.Runs.{survives_same}
use Rattle.portal_tables.specs.declared.sql.names.Names.TheVariants.{All}
use Rattle.portal_store.specs.Calls.{CreatesStore, HandsBack, MakesStore, OpensStore, RefusesToCreate, RefusesToUpgrade}
use Rattle.portal_store.specs.Calls.{UpgradesStore}
use Rattle.portal_store.specs.Crash.{AfterCreating, AfterUpgrading, IsTrueOfQueries, Suits, as_upgrading, later_queries}
use Rattle.portal_store.proofs.Explained.{suits_for}
use Rattle.portal_store.specs.declared.store.CreateFault.{CreateFault}
use Rattle.portal_store.specs.declared.store.CreateFault.TheVariants as creating
use Rattle.portal_store.specs.declared.store.OpenFault.TheVariants as opening
use Rattle.portal_store.specs.declared.store.UpgradeFault.{UpgradeFault}
use Rattle.portal_store.specs.declared.store.UpgradeFault.TheVariants as upgrading
use Rattle.portal_store.specs.inner.Upgrading.{UpgradesWithEntries}
use Rattle.portal_store.proofs.Asked.{by_nothing, opened_kept}
use Rattle.portal_store.proofs.First.{first_is, first_is_good, first_kept}
use Rattle.portal_store.proofs.Keeps.{not_both, rests_by}
use Rattle.portal_store.proofs.Rounds.{world_told}
use Rattle.portal_store.proofs.Upgraded.{same_world, still_good, upgraded_kept}

-- a connection that is handed back: untouched, or only looked at
module _ {S : Type 0} (g : Ghosts S) (After : Trees → Type 0) where
  pub untouched : (conn : Held S) → conn.in_transaction ≡ false → HandsBack g After conn conn
  untouched conn idle = record {
    idle = idle;
    stays = λ clean on. (on, refl, refl);
    crash = survives_weaker (state g conn) (state g conn) _ After (λ clean db no. absurd no) (survives_same (state g conn));
  }

  pub looked_at : (old new : Held S) → IsCommitted (state g old) → old.in_transaction ≡ false
      → OnlyLooks (state g old) (state g new)
      → HandsBack g After old new
  looked_at old new settled idle looks = record {
    idle = looks.mode idle;
    stays = looks.stays settled;
    crash = survives_weaker (state g old) (state g new) _ After (λ clean db no. absurd no) looks.crash;
  }

-- a store that is made over a connection; an open one is clean, and leaves only what is committed
module _
    {S : Type 0}
    (g : Ghosts S)
    (own : Bool)
    (old new : Held S)
    (shut : IsTrue (state g new).is_open → HasCleanDisk (state g new))
    (settled : (db : Trees) → IsTrue (state g new).is_open → (state g new).may_leave db → db ≡ (state g new).committed.trees) where
  abbrev made : StoreState S
  made = record { conn = new; own = own; faults = 0 }

  makes_by : (Own : Type 0) (After : Trees → Type 0) → (IsTrue own ↔ Own) → IsKept g new own
      → (IsCleanStore g made → Good (world_of (state g new).now.trees)) → Survives (state g old) (state g new) After
      → MakesStore g Own After old made
  makes_by Own After is kept good crash =
      record {
        own = is;
        counted = refl;
        good = good;
        settled = rests_by g new own 0 settled kept;
        consistent = λ on. (kept.ready on.0 on.1).holds;
        left = kept.left;
        crash = crash;
      }

  -- of new tables
  module _
      (office : Key)
      (form : IsTrue (is_code office))
      (none_before : IsTrue own ↔ (old.schema ≡ no_schema))
      (idle : new.in_transaction ≡ false)
      (did : HasCleanDisk (state g new) → Commits (Creates office) (state g old) (state g new))
      (only : HasCleanDisk (state g new) → LeavesOnly (state g new)) where
    fresh : IsCleanStore g made → IsFresh office (state g new).now
    fresh on = (did (shut on.1)).changed (none_before.0 on.0)

    pub created : has_names All old.schema ≡ false
        → Survives (state g old) (state g new) (IsAfter (Creates office) (state g old))
        → CreatesStore g office old made
    created free crash = record {
      makes = makes_by _ _ none_before (first_kept g office own old new idle none_before.0 shut did only)
          (λ on. first_is_good office _ (fresh on) form) crash;
      free = free;
      commits = did;
      world = λ on. first_is office _ (fresh on);
      durable = only;
    }

  -- of tables that were looked at, and admitted with these entries
  module _
      (is_own : IsTrue own ↔ IsCurrentSchema old.schema)
      (rest : IsCommitted (state g old))
      (live : IsLive (state g old))
      (idle : old.in_transaction ≡ false)
      (looks : OnlyLooks (state g old) (state g new))
      (entries : AllEntries)
      (reads : IsTrue own → ReadsOr NoFault Second g (IsSoundIfOpen g old)
      (GivesOrFails (λ db e. Admits db.trees × HasEntries e (world_of db.trees)) (λ db (fault : OpenFault). IsTrueOfOpening fault db.trees))
      (Ok entries) old new) where
    found : IsTrue own → HasCleanDisk (state g new)
        → IsUnchanged (state g old) (state g new) × Admits (state g old).now.trees
    found mine clean = let r = reads mine in (r.same clean tt, (r.told (is_own.0 mine) (λ on. (live on).0) clean).0)

    pub open_kept : IsKept g new own
    open_kept = opened_kept g own old new is_own.0 rest live found (looks.mode idle) shut settled

    pub open_entered : IsCleanStore g made → HasEntries entries (world_of (state g new).now.trees)
    open_entered on =
        let told = (reads on.0).told (is_own.0 on.0) (λ up. (live up).0) (shut on.1) in
        subst (λ (d : Database). HasEntries entries (world_of d.trees)) (sym (found on.0 (shut on.1)).0.0.now_is) told.1

    open_good : IsCleanStore g made → Good (world_of (state g new).now.trees)
    open_good on =
        let f = found on.0 (shut on.1) in
        let stands = f.1.stands in
        subst (λ (d : Database). Good (world_of d.trees)) (sym f.0.0.now_is)
        (subst Good (sym (world_told stands.0 _ stands.1.second)) stands.1.good)

    pub opened : (HasCleanDisk (state g new) → Suits (IsTrue own) version later_queries (state g old))
        → (HasFirstSchema old.schema → HasCleanDisk (state g new) → HasVersion version (state g old).now.trees) → OpensStore g old made
    opened suits of_version = record {
      makes = makes_by _ _ is_own open_kept open_good looks.crash;
      stays = looks.stays rest;
      same = λ current clean. (found (is_own.1 current) clean).0;
      judged = λ clean. record {
        suits = suits_for _ _ is_own.0 (state g old) version later_queries (suits clean);
        version_is = λ first. of_version first clean;
        good = λ current. (found (is_own.1 current) clean).1.stands;
      };
    }

  -- of tables that were upgraded
  pub upgraded : (entries : AllEntries) → (IsTrue own ↔ IsFirstSchema old.schema)
      → UpgradesWithEntries g entries old new
      → UpgradesStore g old made
  upgraded entries is_first up = record {
    makes = makes_by _ _ is_first (upgraded_kept g own entries old new is_first.0 up shut)
        (λ on. still_good g own entries old new is_first.0 up on.0 (shut on.1)) up.crash;
    free = up.free;
    judged = λ clean. record { first = up.first clean; free = up.free };
    commits = up.commits;
    world = λ on. same_world g own entries old new is_first.0 up on.0 (shut on.1);
    durable = up.durable;
    left = up.left;
  }

-- a fault that may come so late
after_made : {fault : CreateFault} (office : Key) (old : State) (db : Trees) → fault ≢ creating.Exists
    → IsAfter (Creates office) old db → AfterCreating fault office old db
after_made {fault = creating.Exists} office old db other after = absurd (other refl)
after_made office old db other after = after

-- no table has one of the names, so this is not told
pub not_created : {S : Type 0} (g : Ghosts S) (office : Key) (fault : CreateFault) (old new : Held S)
    → HandsBack g (IsAfter (Creates office) (state g old)) old new → has_names All old.schema ≡ false → fault ≢ creating.Exists
    → RefusesToCreate g office fault old new
not_created g office fault old new back free other = record {
  back = record {
    idle = back.idle;
    stays = back.stays;
    crash = survives_weaker (state g old) (state g new) _ _ (λ clean db after. after_made office (state g old) db other after) back.crash;
  };
  exists = (λ taken. absurd (not_both _ taken free), λ is. absurd (other is));
  untouched = λ is. absurd (other is);
}

-- an upgrade that ends with a fault of opening

pub never_exists : (found : OpenFault) → as_upgrading found ≢ upgrading.Exists
never_exists opening.NotPortal e = absurd (cc)
never_exists found e = absurd (cc)

-- as a fault of upgrading it is still told from the others
opening_of : UpgradeFault → OpenFault
opening_of upgrading.NotPortal = opening.NotPortal
opening_of upgrading.OtherVersion = opening.OtherVersion
opening_of upgrading.Damaged = opening.Damaged
opening_of upgrading.Memory = opening.Memory
opening_of _ = opening.Store

as_back : (found : OpenFault) → opening_of (as_upgrading found) ≡ found
unfolding opening_of
as_back opening.NotPortal = refl
as_back found = refl

as_once : (a b : OpenFault) → as_upgrading a ≡ as_upgrading b → a ≡ b
as_once a b same = sym (as_back a) ∙ ap opening_of same ∙ as_back b

-- a fault that may come so late
pub after_late : (fault : UpgradeFault) (found : OpenFault) (old : State) (db : Trees) → fault ≡ as_upgrading found
    → SaysNothing found → LeavesUpgraded old db → AfterUpgrading fault old db
after_late fault found old db is nothing left =
    subst (λ f. AfterUpgrading f old db) (sym is) (by_nothing (λ f. AfterUpgrading (as_upgrading f) old db) left left found nothing)

pub not_upgraded : {S : Type 0} (g : Ghosts S) (fault : UpgradeFault) (found : OpenFault) (old new : Held S)
    → fault ≡ as_upgrading found
    → HandsBack g (AfterUpgrading fault (state g old)) old new
    → (HasCleanDisk (state g new) → IsTrueOfQueries found (IsFirstSchema old.schema) first_version [] (state g old))
    → (IsFirstSchema old.schema → HasCleanDisk (state g new)
    → IsTrueOfTables found first_version (HasGoodFirst first_version (state g old).now.trees) (state g old).now.trees)
    → (found ≡ opening.Damaged → HasFirstSchema old.schema → HasCleanDisk (state g new)
    → HasGoodFirst first_version (state g old).now.trees → ⊥)
    → (IsFirstSchema old.schema → Survives (state g old) (state g new) (IsUpgradedFrom (state g old).now.trees))
    → RefusesToUpgrade g fault old new
not_upgraded g fault found old new is back so said harm left =
    let never : fault ≢ upgrading.Exists = λ e. never_exists found (sym is ∙ e) in
    record {
      back = back;
      judged = λ clean. record {
        explained = λ other same.
            subst (λ f. IsTrueOfQueries f (IsFirstSchema old.schema) first_version [] (state g old)) (as_once found other (sym is ∙ same))
            (so clean);
        barred = λ first. (found, is, said first clean);
        damaged = λ e first. harm (as_once found opening.Damaged (sym is ∙ e)) first clean;
        exists = λ e. absurd (never e);
      };
      taken = λ e. absurd (never e);
      left = left;
    }
