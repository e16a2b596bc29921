-- Refutes wrong outcomes of commands over a file: tables made where no world is left, damaged or foreign tables that
-- are opened, refusals exchanged, a refused file changed, an upgrade of nothing, requests counted wrong.
use Rattle.std.proofs.Common.{◌≡◌, ◌≢◌, ℕ, List, [], ◌∷◌, ◌++◌, length, Some, Ok, Err, Option, inl, inr}
use Rattle.std.proofs.Common.{refl, sym, ap, ◌∙◌, subst, true, false}
use Rattle.std.specs.Prelude.{IfSome, pos, slice_index_or, Vec}
use Rattle.std.specs.declared.alloc.Global.{Global}
use Rattle.sqlite.specs.Effect.{Database}
use Rattle.sqlite.specs.Tree.{Trees}
use Rattle.sqlite.specs.Order.{Row, column}
use Rattle.sqlite.specs.declared.types.Value.TheVariants.{Int}
use Rattle.portal_rules.specs.Words.{Key}
use Rattle.portal_rules.specs.World.{World}
use Rattle.portal_rules.specs.View.{office_sees}
use Rattle.portal_wire.specs.Conversation.{Exchange, End}
use Rattle.portal_wire.specs.declared.Ending.TheVariants as ending
use Rattle.portal_desk.specs.Session.{Ended, Stream}
use Rattle.portal_desk.specs.declared.served.Served.{Served}
use Rattle.portal_serve.specs.Hall.{office_report}
use Rattle.portal_tables.specs.Tables.{IsCurrentSchema, IsFirstSchema, no_schema, portal_tree, version}
use Rattle.portal_store.specs.Kept.{AreConsistent}
use Rattle.portal_store.specs.Crash.{AreOpened, Passes, IsTrueOfOpening, ShowsVersion, first_queries}
use Rattle.portal_store.specs.declared.store.CreateFault.TheVariants as creating
use Rattle.portal_store.specs.declared.store.OpenFault.{OpenFault}
use Rattle.portal_store.specs.declared.store.OpenFault.TheVariants as opening
use Rattle.portal_store.specs.declared.store.UpgradeFault.TheVariants as upgrading
use Rattle.portal_file.specs.Tables.{Stands, StandsCurrent, StandsFirst, FileEffect, Version, Current, opened_over}
use Rattle.sqlite_disk.specs.declared.Disk.{Ghosts}
use Rattle.sqlite_disk.specs.declared.Files.{Files}
use Rattle.sqlite_trees.specs.View.{IsClean}
use Rattle.sqlite_store.specs.declared.store.FileStore.{FileStore}
use Rattle.sqlite_store.specs.FileStore.{HasSpilled, files, log_frames, view}
use Rattle.portal_file.specs.Closing.{IsCopied}
use Rattle.portal_file.specs.Jobs.{Devices, MakesTables, OpensTables, PipesStream}
use Rattle.portal_file.specs.Jobs.{ReportsWorld, ServesRequests, UpgradesTables}

-- work that begins with this database, and leaves these trees
abbrev pub over : Database → Trees → FileEffect
over db left = record {
  finds = λ version w. Stands version db w;
  is_new = ⊥;
  begins = λ Kind. Kind db;
  ends = λ Comes. Comes db left;
  leaves = λ version Kind. (w : World) × Kind w × (after : Database) × (after.trees ≡ left) × Stands version after w;
  serves = λ visit. Unit {0};
}

-- ---- tables made

-- work that leaves no world makes none
pub tables_made_with_nothing_left_are_refuted : {A : Type 0} (office : Key) (x : A) (work : FileEffect)
    → ((version : Version) (P : World → Type 0) → work.leaves version P → ⊥) → MakesTables office (Ok x) work → ⊥
tables_made_with_nothing_left_are_refuted office x work none makes = none Current _ makes.made.1

-- `made` of a database that has a table
pub made_of_a_database_with_a_table_is_refuted : {A : Type 0} (office : Key) (x : A) (db : Database) (left : Trees) → db.schema ≢ no_schema
    → MakesTables office (Ok x) (over db left) → ⊥
made_of_a_database_with_a_table_is_refuted office x db left some makes =
    let exists : Ok x ≡ Err creating.Exists = makes.judged.1 some in absurd (cc)

-- `exists` of one that has none
pub exists_told_of_a_new_database_is_refuted : {A : Type 0} (office : Key) (db : Database) (left : Trees) → db.schema ≡ no_schema
    → MakesTables {A = A} office (Err creating.Exists) (over db left) → ⊥
exists_told_of_a_new_database_is_refuted office db left none makes = makes.judged.0 refl none

-- `exists`, and tables made in another program's database
pub tables_made_and_told_as_exists_are_refuted : {A : Type 0} (office : Key) (db : Database) (left : Trees) → left ≢ db.trees
    → MakesTables {A = A} office (Err creating.Exists) (over db left) → ⊥
tables_made_and_told_as_exists_are_refuted office db left changed makes = changed makes.kept

-- `exists` of such a database, which is left as it was
pub exists_told_of_a_table_is_right : {A : Type 0} (office : Key) (db : Database) → db.schema ≢ no_schema
    → MakesTables {A = A} office (Err creating.Exists) (over db db.trees)
exists_told_of_a_table_is_right office db some = record {
  serves = tt;
  made = tt;
  lasting = tt;
  none = tt;
  judged = (λ _. some, λ _. refl);
  exists = λ _ never. never;
  kept = refl;
}

-- ---- tables opened

-- own tables with no good world, as after damage, are not opened: so nothing is served, or reported, of them
pub damaged_tables_are_not_opened : {A : Type 0} (x : A) (db : Database) (left : Trees) → IsCurrentSchema db.schema
    → ((w : World) → StandsCurrent db w → ⊥)
    → OpensTables (Ok x) (over db left) → ⊥
damaged_tables_are_not_opened x db left own none opens = let found = opens.stood own in none found.0 found.1

pub damaged_tables_are_not_served : {A : Type 0} (x : A) (Told : List Exchange → Type 0) (db : Database) (left : Trees)
    → IsCurrentSchema db.schema → ((w : World) → StandsCurrent db w → ⊥)
    → ServesRequests (Ok x) Told (over db left) → ⊥
damaged_tables_are_not_served x Told db left own none serves = damaged_tables_are_not_opened x db left own none serves.opens

-- another program's database, which shows no version 2
pub tables_without_version_2_are_not_opened : {A : Type 0} (x : A) (db : Database) (left : Trees)
    → (ShowsVersion version (opened_over db) → ⊥) → OpensTables (Ok x) (over db left) → ⊥
tables_without_version_2_are_not_opened x db left none opens = none opens.judged.suits.shows

-- other tables that do not answer the first six queries
pub tables_that_answer_no_query_are_not_opened : {A : Type 0} (x : A) (db : Database) (left : Trees)
    → (Passes (IsCurrentSchema db.schema) first_queries (opened_over db) → ⊥)
    → OpensTables (Ok x) (over db left) → ⊥
tables_that_answer_no_query_are_not_opened x db left none opens = none opens.judged.suits.passes

-- own tables with a good world are opened

opened : (db : Database) (w : World) → ShowsVersion version (opened_over db) → StandsCurrent db w → AreOpened (opened_over db)
opened db w shows stands =
    let office = stands.stands.1.office in
    record {
      suits = record { passes = inl stands.schema; shows = shows; passes_later = inl stands.schema };
      version_is = λ _. record {
        there = λ none. let e = sym office.is ∙ none in cc;
        version_is = λ row is. ap (λ (rows : List Row). column (slice_index_or rows 0 []) 2) (sym is ∙ office.is);
      };
      good = λ _. stands.stands;
    }

pub good_tables_are_opened : {A : Type 0} (x : A) (db : Database) (w : World) → ShowsVersion version (opened_over db)
    → StandsCurrent db w → AreConsistent db.trees
    → OpensTables (Ok x) (over db db.trees)
good_tables_are_opened x db w shows stands consistent = record {
  judged = opened db w shows stands;
  stood = λ _. (w, stands);
  refused = tt;
  lasting = λ _. consistent;
  kept = tt;
}

-- ---- refusals

-- own tables with a row of the office are not `NotPortal`
pub no_portal_told_of_own_tables_is_refuted : {A : Type 0} (db : Database) (left : Trees) → IsCurrentSchema db.schema
    → db.trees portal_tree ≢ []
    → OpensTables {A = A} (Err opening.NotPortal) (over db left) → ⊥
no_portal_told_of_own_tables_is_refuted db left own some opens = some (opens.judged.refuted own)

-- those of version 2 are not `OtherVersion`
pub other_version_told_of_version_2_is_refuted : {A : Type 0} (db : Database) (left : Trees) (row : Row) → IsCurrentSchema db.schema
    → db.trees portal_tree ≡ row ∷ [] → column row 2 ≡ Int (pos version)
    → OpensTables {A = A} (Err opening.OtherVersion) (over db left) → ⊥
other_version_told_of_version_2_is_refuted db left row own is two opens = (opens.judged.refuted own).other row is two

-- those of another version are not `Damaged`
pub damage_told_of_another_version_is_refuted : {A : Type 0} (db : Database) (left : Trees) (row : Row) → IsCurrentSchema db.schema
    → db.trees portal_tree ≡ row ∷ [] → column row 2 ≢ Int (pos version)
    → OpensTables {A = A} (Err opening.Damaged) (over db left) → ⊥
damage_told_of_another_version_is_refuted db left row own is other opens = other ((opens.judged.refuted own).0.version_is row is)

-- those with a good world are none of the three
pub good_world_refused_is_refuted : {A : Type 0} (db : Database) (left : Trees) (w : World) → StandsCurrent db w
    → OpensTables {A = A} (Err opening.Damaged) (over db left) → ⊥
good_world_refused_is_refuted db left w stands opens = elim (opens.refused w stands) [ inl e ↦ absurd (cc) | inr e ↦ absurd (cc) ]

-- a refused file, whatever it holds, is not changed, also by a fault of the store
pub refused_tables_that_change_are_refuted : {A : Type 0} (fault : OpenFault) (db : Database) (left : Trees) → left ≢ db.trees
    → OpensTables {A = A} (Err fault) (over db left) → ⊥
refused_tables_that_change_are_refuted fault db left changed opens = changed opens.kept

-- own tables of version 2 with no good world are `Damaged`, and stay
pub damaged_tables_are_refused : {A : Type 0} (db : Database) → IsCurrentSchema db.schema → ShowsVersion version (opened_over db)
    → IsTrueOfOpening opening.Damaged db.trees
    → ((w : World) → StandsCurrent db w → ⊥) → OpensTables {A = A} (Err opening.Damaged) (over db db.trees)
damaged_tables_are_refused db own shows refutes none = record {
  judged = record { explained = record { passes = inl own; shows = shows; passes_later = inl own }; refuted = λ _. refutes };
  stood = tt;
  refused = λ w stands. absurd (none w stands);
  lasting = tt;
  kept = refl;
}

-- ---- tables upgraded

-- `upgraded` of own tables of version 1 with no good world
pub damaged_tables_are_not_upgraded : {A : Type 0} (x : A) (db : Database) (left : Trees) → IsFirstSchema db.schema
    → ((w : World) → StandsFirst db w → ⊥)
    → UpgradesTables (Ok x) (over db left) → ⊥
damaged_tables_are_not_upgraded x db left own none upgrades = let found = upgrades.stood own in none found.0 found.1

-- `upgraded` of a year of version 2
pub version_2_upgraded_again_is_refuted : {A : Type 0} (x : A) (db : Database) (left : Trees) (w : World) → StandsCurrent db w
    → UpgradesTables (Ok x) (over db left) → ⊥
version_2_upgraded_again_is_refuted x db left w stands upgrades = upgrades.none w stands

-- a refused file, whatever it holds, is not changed, nor left upgraded
pub refused_upgrade_that_changes_is_refuted : {A : Type 0} (db : Database) (left : Trees) → left ≢ db.trees
    → UpgradesTables {A = A} (Err upgrading.Damaged) (over db left) → ⊥
refused_upgrade_that_changes_is_refuted db left changed upgrades = elim upgrades.kept [ inl same ↦ changed same | inr never ↦ never ]

-- ---- the report

-- another text than the report on the world that was found, such as nothing
pub another_report_is_refuted : (text : Vec ℕ Global) (db : Database) (left : Trees) (w : World) → StandsCurrent db w
    → text.items ≢ office_report (office_sees w)
    → ReportsWorld (Ok (Ok text)) (over db left) → ⊥
another_report_is_refuted text db left w stands other reports = other (reports.text w (inl stands))

-- ---- requests counted

-- work that serves these requests of this stream, and no others
abbrev pub streaming : List Exchange → Stream → Database → FileEffect
streaming es stream db = record {
  finds = λ version w. Stands version db w;
  is_new = ⊥;
  begins = λ Kind. Kind db;
  ends = λ Comes. Comes db db.trees;
  leaves = λ version P. ⊥;
  serves = λ v. (v.exchanges ≡ es) × (v.stream ≡ Some stream);
}

pub requests_counted_wrong_are_refuted : (es : List Exchange) (stream : Stream) (db : Database) (served : Served) (ends : Devices)
    → served.requests ≢ length es
    → PipesStream (Ok (Ok served)) ends (streaming es stream db) → ⊥
requests_counted_wrong_are_refuted es stream db served ends wrong pipes =
    let (v, (same, known), reports) = pipes.serves in
    let counted : served.requests ≡ length v.exchanges =
    subst (λ (o : Option Stream). IfSome o (λ _. served.requests ≡ length v.exchanges)) known reports.counted in
    wrong (counted ∙ ap length same)

abbrev nothing : Stream
nothing = record { bytes = []; written = []; finish = Ended End }

abbrev still : Devices
still = record { remaining = Some []; left = Some []; before = Some []; after = Some [] }

-- a stream of no requests over own tables with a good world
pub no_request_counted_of_none_is_right : (db : Database) (w : World) → ShowsVersion version (opened_over db) → StandsCurrent db w
    → AreConsistent db.trees
    → PipesStream (Ok (Ok (record { requests = 0; ending = ending.End }))) still (streaming [] nothing db)
no_request_counted_of_none_is_right db w shows stands consistent = record {
  serves = (
    record { exchanges = []; stream = Some nothing },
    (refl, refl),
    record { known = known; counted = refl; ended = (false, refl) },
  );
  opens = record {
    judged = opened db w shows stands;
    stood = λ _. (w, stands);
    refused = tt;
    lasting = λ _. consistent;
    kept = tt;
  };
} where
  known : (bytes before after : List ℕ) → Some [] ≡ Some bytes → Some [] ≡ Some before → Some [] ≡ Some after
      → ([] ≡ bytes) × (after ≡ before ++ [])
  known bytes before after e f g =
      let none_after : [] ≡ after = cc in
      let none_before : [] ≡ before = cc in
      (cc, sym none_after ∙ ap (λ (x : List ℕ). x ++ []) none_before)

-- ---- the log copied

-- `Ok` of a store that stands, though frames of its log are left
pub log_that_is_left_is_not_copied : {D : Type 0} {g : Ghosts D} (old : FileStore D g) (closed : Files D)
    → IsClean (view old) → (view old).is_broken ≡ false → (HasSpilled old → ⊥)
    → ((new : FileStore D g) → (closed.log, closed.db) ≡ files new → log_frames new ≡ 0 → ⊥)
    → IsCopied old closed → ⊥
log_that_is_left_is_not_copied old closed clean sound spilled left (inl broken) =
    let e : true ≡ false = sym (broken clean) ∙ sound in cc
log_that_is_left_is_not_copied old closed clean sound spilled left (inr (new, is, none)) = left new is (none spilled)

pub log_without_frames_is_copied : {D : Type 0} {g : Ghosts D} (old new : FileStore D g) (closed : Files D)
    → (closed.log, closed.db) ≡ files new → log_frames new ≡ 0 → IsCopied old closed
log_without_frames_is_copied old new closed is none = inr (new, is, λ spilled. none)
