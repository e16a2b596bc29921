-- From what the files hold to what a connection shows, and from what a connection leaves to what the files hold.
use Rattle.std.proofs.Common.{◌≡◌, List, [], length, IsTrue, Result, Ok, Err, IfOk, refl, sym, ap, subst, ◌∙◌, arith}
use Rattle.std.proofs.Common.{inl, inr}
use Rattle.std.proofs.Math.Logic.{∥∥₁_elim, ∥∥₁_map}
use Rattle.sqlite_disk.specs.declared.Disk.{Ghosts}
use Rattle.sqlite_disk.specs.declared.Files.{Files}
use Rattle.sqlite_wal.specs.Files.{outcomes}
use Rattle.sqlite_wal.specs.Reads.{AreClean}
use Rattle.sqlite_wal.specs.Recovery.{Image}
use Rattle.sqlite_trees.specs.Tree.{Trees}
use Rattle.sqlite_trees.specs.Sound.{is_sound_list}
use Rattle.sqlite_store.specs.declared.store.FileStore.{FileStore}
use Rattle.sqlite_store.specs.FileStore.{state, view, recovers}
use Rattle.sqlite.specs.Effect.{Database, IsDatabase}
use Rattle.sqlite.specs.State.{State, HasCleanDisk, IsLive, Opens}
use Rattle.sqlite.specs.Held.{AreDatabases, Held}
use Rattle.sqlite.specs.Start.{FindsIn}
use Rattle.sqlite.specs.Files.{AreFoundIn, HoldsDatabase, file_state}
use Rattle.sqlite.proofs.Theorems.{opens_again}
use Rattle.portal_rules.specs.World.{World}
use Rattle.portal_desk.specs.Session.{Visit}
use Rattle.sqlite.specs.Order.{Row}
use Rattle.sqlite_trees.specs.Objects.{catalog_tree}
use Rattle.sqlite_catalog.specs.Listing.{Lists}
use Rattle.sqlite_catalog.proofs.ReadLemmas.{lists_once}
use Rattle.portal_tables.specs.Tables.{no_schema}
use Rattle.portal_tables.proofs.Owned.{one_schema}
use Rattle.portal_file.specs.Tables.{Stands, Version, First, Current, Either, FileEffect}
use Rattle.portal_file.specs.inner.Connected.{AllStand, IsUnlimited, Shows, work_of}
use Rattle.portal_file.specs.Files.{Holds, HoldsSome, HoldsTrees, ShownIn}
use Rattle.portal_file.specs.Chain.{OverClosed, OverFiles, work_over}
use Rattle.portal_file.specs.declared.closing.NotCopied.{NotCopied}
use Rattle.portal_file.specs.Closing.{ComesOf, HoldsLeft}
use Rattle.portal_file.specs.inner.Lift.{OpensOver, RunsOver, WorksOver}
use Rattle.portal_file.proofs.Base.{if_ok}

-- what stands for a world obeys its schema
stands_sound : (version : Version) (db : Database) (w : World) → Stands version db w → IsDatabase db
stands_sound First db w first = first.sound
stands_sound Current db w current = current.sound
stands_sound Either db w (inl current) = current.sound
stands_sound Either db w (inr first) = first.sound

-- nothing is listed by no schema but the empty one
none_listed : Lists [] no_schema
unfolding is_sound_list
none_listed = record { listed = record { tables = tt; indexes = tt; views = tt; owned = tt; named = tt; loads = refl }; guarded = tt }

module _ (found : Image) (s : State) (opens : Opens s) (live : IsLive s) (finds : FindsIn found s) where
  same_database : (db : Database) → IsDatabase db → HoldsDatabase found db.trees → s.now ≡ db
  same_database db sound holds =
      let trees : s.now.trees ≡ db.trees = ap (λ (d : Database). d.trees) opens.clean ∙ finds.holds db.trees holds in
      let schema : s.now.schema ≡ db.schema = one_schema db s.now sound (live opens.is_open).0 trees in
      λ i. record { schema = schema i; trees = trees i }

  pub found_shows : (version : Version) (w : World) → Holds version found w → Shows version s w
  found_shows version w holds = record {
    is_open = opens.is_open;
    stands = ∥∥₁_map holds
        (λ h. subst (λ d. Stands version d w) (sym (same_database h.0 (stands_sound version h.0 w h.2) h.1)) h.2);
  }

  -- the database that a connection shows
  pub shown_in : ShownIn found s.now
  shown_in = record {
    sound = (live opens.is_open).0;
    holds = λ trees holds. ap (λ (d : Database). d.trees) opens.clean ∙ finds.holds trees holds;
    reads = subst (λ (d : Database). AreFoundIn found d.trees) (sym opens.clean) finds.reads;
  }

  -- over a missing or an empty database file, a connection shows no table
  nothing : found.db ≡ [] → s.now.trees catalog_tree ≡ []
  nothing none = ap (λ (d : Database). d.trees catalog_tree) opens.clean ∙ elim finds.reads [
    | inl some ↦ absurd (let few = ap length none in omega (arith, some.3.found.present, few))
    | inr empty ↦ empty.1.1
  ]

  pub found_none : found.db ≡ [] → s.now.schema ≡ no_schema
  found_none none =
      lists_once [] s.now.schema no_schema
      (subst (λ (l : List Row). Lists l s.now.schema) (nothing none) (live opens.is_open).0.lists) none_listed

-- from what a stop of a connection leaves to what the files hold

left_holds : (version : Version) (s : State) (left : Image) (Kind : World → Type 0)
    → AllStand version s.may_leave Kind → HoldsLeft s left
    → HoldsSome version left Kind
left_holds version s left Kind stand holds =
    ∥∥₁_elim holds squash₁ (λ h. ∥∥₁_map (stand h.0 h.1) (λ t.
    let d = t.2 in
    let is : (db : Database) × HoldsDatabase left db.trees
    × Stands version db t.0 = (d.0, subst (HoldsDatabase left) (sym d.1) h.2, d.2) in
    let r : (w : World) × Kind w × Holds version left w = (t.0, t.1, ∣ is ∣₁) in
    r))

module _ {D : Type 0} {g : Ghosts D} (it : FileStore D g) (numbered : IsTrue (view it).is_numbered) (sound : AreDatabases (recovers it))
    (s : State) (quiet : (db : Trees) → recovers it db → s.may_leave db) where
  pub left_of : (left : Image) → (state it).may_leave left → HoldsLeft s left
  left_of left may = ∥∥₁_map (opens_again it numbered sound left may)
      (λ h. let r : (db : Trees) × s.may_leave db × HoldsDatabase left db = (h.0, quiet h.0 h.1, h.2) in r)

-- what is said of work over a connection, of work over its files

-- what work finds and leaves is found and left by other work
pub record Carries (a b : FileEffect) : Type 1 where
  pub finds : (version : Version) (w : World) → b.finds version w → a.finds version w
  pub is_new : b.is_new → a.is_new
  pub begins : (Kind : Database → Type 0) → a.begins Kind → b.begins Kind
  pub ends : (Comes : Database → Trees → Type 0) → a.ends Comes → b.ends Comes
  pub leaves : (version : Version) (Kind : World → Type 0) → a.leaves version Kind → b.leaves version Kind
  pub serves : (v : Visit) → a.serves v → b.serves v

module _ {D : Type 0} {g : Ghosts D} (found : Image) (first last : Held (FileStore D g)) (opened : OpensOver found first) (files : Files D)
    (comes : ComesOf (file_state last) (AreClean g files.log files.db) (outcomes g files.log files.db)) where
  carries : HasCleanDisk (file_state first) → AreClean g files.log files.db
      → Carries (work_of (file_state first) (file_state last)) (work_over found (outcomes g files.log files.db))
  carries early honest =
      let old = file_state first in
      let new = file_state last in
      let shows = opened early in
      let shown = shown_in found old shows.0.0 shows.0.1 shows.1 in
      let free : IsUnlimited old = record { is_open = shows.0.0.is_open; unlimited = shows.2 } in
      let finds : (version : Version) (w : World) → Holds version found w
      → Shows version old w = found_shows found old shows.0.0 shows.0.1 shows.1 in
      record {
        finds = finds;
        is_new = found_none found old shows.0.0 shows.0.1 shows.1;
        begins = λ Kind kind.
            let r : (db : Database) × ShownIn found db × Kind db = (old.now, shown, kind free) in ∣ r ∣₁;
        ends = λ Comes so.
            let r : (db : Database) × ShownIn found db
            × ((left : Image) → outcomes g files.log files.db left → HoldsTrees left (Comes db)) = (
              old.now,
              shown,
              λ left may. ∥∥₁_map (comes.holds honest left may) (λ h.
                  let t : (t : Trees) × Comes old.now t × HoldsDatabase left t = (h.0, so free h.0 h.1, h.2) in t),
            ) in ∣ r ∣₁;
        leaves = λ version Kind stand left may. left_holds version new left Kind stand (comes.holds honest left may);
        serves = λ v turn left may. record {
          reaches = λ w holds. left_holds Either new left _ (turn.reaches w (finds Either w holds))
              (comes.holds honest left may);
          tells = turn.tells;
        };
      }

  over : (Does : FileEffect → Type 0) → ((a b : FileEffect) → Carries a b → Does a → Does b)
      → WorksOver (file_state first) (file_state last) Does → OverFiles g found Does files
  over Does on works honest =
      let late = comes.clean honest in
      on (work_of (file_state first) (file_state last)) (work_over found (outcomes g files.log files.db))
      (carries (works.disk late) honest)
      (works.did late)

over_closed : {D : Type 0} (g : Ghosts D) (found : Image) (Does : FileEffect → Type 0)
    → ((a b : FileEffect) → Carries a b → Does a → Does b) → (closed : Result (Files D) (NotCopied D))
    → RunsOver g found Does closed → OverClosed g found Does closed
over_closed g found Does on (Ok files) ran = record {
  did = over found ran.first ran.last ran.opened files ran.closes.comes Does on ran.works;
  failed = ran.closes.failed;
}
over_closed g found Does on (Err left) ran = record {
  did = λ stands. over found ran.first ran.last ran.opened left.files (ran.closes.comes stands) Does on ran.works;
  failed = ran.closes.failed;
}

-- what a job says of work over a connection, it says of the files, whatever it returned
pub over_files : {D : Type 0} (g : Ghosts D) {O X : Type 0} (found : Image) (Does : O → FileEffect → Type 0)
    → ((out : O) (a b : FileEffect) → Carries a b → Does out a → Does out b)
    → (result : Result (O × Result (Files D) (NotCopied D)) X) → IfOk result (λ r. RunsOver g found (Does r.0) r.1)
    → IfOk result (λ r. OverClosed g found (Does r.0) r.1)
over_files g found Does on result ran =
    if_ok result _ _ (λ r did. over_closed g found (Does r.0) (on r.0) r.1 did) ran

-- the same where the job lends two values, which end as these
pub over_files_with : {D : Type 0} (g : Ghosts D) {O X R W : Type 0} (found : Image)
    (Does : R → W → O → FileEffect → Type 0)
    → ((r : R) (w : W) (out : O) (a b : FileEffect) → Carries a b → Does r w out a → Does r w out b)
    → (r s : R) (v w : W) → r ≡ s → v ≡ w → (result : Result (O × Result (Files D) (NotCopied D)) X)
    → IfOk result (λ x. RunsOver g found (Does r v x.0) x.1)
    → IfOk result (λ x. OverClosed g found (Does s w x.0) x.1)
over_files_with g found Does on r s v w same alike result ran =
    subst (λ y. IfOk result (λ x. OverClosed g found (Does y w x.0) x.1)) same
    (subst (λ y. IfOk result (λ x. OverClosed g found (Does r y x.0) x.1)) alike
    (over_files g found (Does r v) (on r v) result ran))
