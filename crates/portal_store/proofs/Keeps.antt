-- What a call that read, or made a change, is to the store.
use Rattle.portal_store.proofs.Base.{inl, inr, ◌≡◌, ℕ, Bool, IsTrue, Ok, Err, Result, IfOk, OnOk, OnErr, true, false}
use Rattle.portal_store.proofs.Base.{refl, sym, ap, subst, ◌∙◌, arith, cases_Bool, on_ok_weaker, Database, HasCleanDisk}
use Rattle.portal_store.proofs.Base.{IsUnchanged, Survives, Trees, Ghosts, Held, state, Change, changed, Second, World}
use Rattle.portal_store.proofs.Base.{Good, Sound, IsCurrentSchema, clean_if_open, looks_by, Reading, Anyhow, Commits}
use Rattle.portal_store.proofs.Base.{Stays, IsAfter, world_of, IsConsistent, HasChanged, IsTransition, StoreState}
use Rattle.portal_store.proofs.Base.{IsCleanStore, kept_world, kept_state, IsKept, CommitsChange, DiskInMemory}
use Rattle.portal_store.proofs.Base.{KeepsClean, Lasts, LastsInMemory, IsLeft, IsSameUpToFault, ◌⊎◌, IsBrokenStore}
use Rattle.portal_store.proofs.Base.{UnbrokenInMemory, AreConsistent, LeavesMade}
use Rattle.std.specs.Prelude.{◌≤◌}
use Rattle.portal_rules.specs.Keeping.{IsAlive, IsSettled, AfterCall}
use Rattle.portal_rules.specs.declared.keeper.KeepFault.{KeepFault}
use Rattle.portal_store.proofs.Ended.{told_if}

-- nothing is changed
pub still : {S : Type 0} (g : Ghosts S) (old new : Held S) (own : Bool) → IsKept g old own → new.in_transaction ≡ false
    → (IsTrue own → HasCleanDisk (state g new) → (db : Trees) → (state g new).may_leave db → AreConsistent db)
    → (IsTrue own → IsTrue (state g new).is_open → Stays (state g old) (state g new)) → IsKept g new own
still g old new own kept idle left stays = record {
  idle = idle;
  left = left;
  ready = λ mine on.
      let same = stays mine on in
      let was = kept.ready mine same.0 in
      record { settled = same.2 ∙ was.settled ∙ sym same.1; holds = subst IsConsistent (sym same.1) was.holds };
}

-- a test that is true is not false
pub not_both : (b : Bool) → IsTrue b → b ≡ false → ⊥
not_both b up down = let e : true ≡ false = sym up ∙ down in absurd (cc)

-- a stop of a clean store leaves its world
pub rests_by : {S : Type 0} (g : Ghosts S) (h : Held S) (own : Bool) (few : ℕ)
    → ((db : Trees) → IsTrue (state g h).is_open → (state g h).may_leave db → db ≡ (state g h).committed.trees)
    → IsKept g h own → IsCleanStore g (record { conn = h; own = own; faults = few })
    → IsSettled (kept_state g (record { conn = h; own = own; faults = few }))
rests_by g h own few settled kept on w l =
    l.world ∙ ap world_of (settled l.db on.1 l.left) ∙ ap (λ (d : Database). world_of d.trees) (kept.ready on.0 on.1).settled

-- what an open connection leaves is consistent, as it shows what is committed
pub leaves_shown : {S : Type 0} (g : Ghosts S) (h : Held S)
    → ((db : Trees) → IsTrue (state g h).is_open → (state g h).may_leave db → db ≡ (state g h).committed.trees)
    → (state g h).committed ≡ (state g h).now → IsConsistent (state g h).now → IsTrue (state g h).is_open
    → (db : Trees) → (state g h).may_leave db → AreConsistent db
leaves_shown g h settled is holds on db may = ((state g h).now, settled db on may ∙ ap (λ (d : Database). d.trees) is, holds)

-- what each call says of the store before and after it; `made` is the world that a stop may leave
pub record Call {S V E : Type 0} (g : Ghosts S) (r : Result V E) (made : StoreState S → World → Type 0)
    (later before : StoreState S) : Type 0 where
  pub stays_open : Lasts g before later
  pub uses : AfterCall r (kept_state g before) (kept_state g later) (made before)
  pub alive : OnOk r (IsAlive (kept_state g later))

-- `old` is the connection at the start of the call and `before` the store, as its caller sees it
module _
    {S : Type 0}
    (g : Ghosts S)
    (old new : Held S)
    (own : Bool)
    (few many : ℕ)
    (kept : IsKept g new own)
    (settled : (db : Trees) → IsTrue (state g new).is_open → (state g new).may_leave db → db ≡ (state g new).committed.trees)
    (P : Trees → Type 0)
    (s : Survives (state g old) (state g new) P)
    (back : IsTrue own → IsTrue (state g new).is_open → IsTrue (state g old).is_open)
    (made : StoreState S → World → Type 0)
    (left : IsTrue own → HasCleanDisk (state g new) → (db : Trees) → P db
    → made (record { conn = old; own = own; faults = few }) (world_of db)) where
  abbrev first : StoreState S
  first = record { conn = old; own = own; faults = few }

  abbrev last : StoreState S
  last = record { conn = new; own = own; faults = many }

  failed : HasCleanDisk (state g new) → IsTrue (state g old).is_open → (state g new).is_open ≡ false
      → 1 ≤ (state g new).faults
  failed clean on shut = elim (s.closes clean on) [
    | inl live ↦ absurd (not_both (state g new).is_open live shut)
    | inr more ↦ omega
        (arith, more)
  ]

  shut_still : IsBrokenStore g first → (state g new).is_open ≡ false
  shut_still bad = elim (cases_Bool (state g new).is_open) [
    | inl live ↦ absurd
        (not_both (state g old).is_open (back bad.own live) bad.shut)
    | inr shut ↦ shut
  ]

  stays_or_breaks : HasCleanDisk (state g new) → IsCleanStore g first → IsCleanStore g last ⊎ IsBrokenStore g last
  stays_or_breaks clean on = elim (cases_Bool (state g new).is_open) [
    | inl live ↦ inl (on.0, live)
    | inr shut ↦ inr
        (record { own = on.0; shut = shut; failed = failed clean on.1 shut })
  ]

  module _ {V E : Type 0} where
    lasts_by : (r : Result V E) → (HasCleanDisk (state g new) → IsTrue own → OnOk r (IsTrue (state g new).is_open))
        → OnOk r (KeepsClean g first last)
    lasts_by (Ok v) up = λ clean. (omega (arith, clean, s.clean), λ on. (on.0, up clean on.0))
    lasts_by (Err e) up = tt

    unbroken : (r : Result V E) → (HasCleanDisk (state g new) → IsTrue own → OnOk r (IsTrue (state g new).is_open))
        → OnOk r (IsAlive (kept_state g last))
    unbroken (Ok v) up = λ clean bad. not_both (state g new).is_open (up clean bad.own) bad.shut
    unbroken (Err e) up = tt

    called : (r : Result V E) → (HasCleanDisk (state g new) → IsTrue own → OnOk r (IsTrue (state g new).is_open)) → (before : StoreState S)
        → ◌≡◌ {A = StoreState S} first before → Call g r made last before
    called r up before is = subst (λ b. Call g r made last b) is (record {
      stays_open = λ clean on. elim (s.closes clean on.1) [ inl live ↦ inl (on.0, live) | inr more ↦ inr more ];
      uses = record {
        clean = λ on. (on.0, back on.0 on.1);
        lasts = lasts_by r up;
        breaks = λ clean. (
          omega (arith, clean, s.clean),
          stays_or_breaks clean,
          λ bad. record { own = bad.own; shut = shut_still bad; failed = omega (arith, s.counts, bad.failed) },
        );
        settled = rests_by g new own many settled kept;
        leaves = λ clean w l. elim (s.crash clean l.db l.left) [
          | inl earlier ↦ inl (record { own = l.own; db = l.db; left = earlier; world = l.world })
          | inr later ↦ inr (subst (made first) (sym l.world) (left l.own clean l.db later))
        ];
      };
      alive = unbroken r up;
    })

-- a call that makes a change, or changes nothing
module _
    {S : Type 0}
    {g : Ghosts S}
    (change : Change)
    {old : Held S}
    (new : Held S)
    {own : Bool}
    {few : ℕ}
    {before : StoreState S}
    (is : ◌≡◌ {A = StoreState S} (record { conn = old; own = own; faults = few }) before)
    (kept : IsKept g old own)
    (is_own : IsTrue before.own → IsCurrentSchema before.conn.schema)
    (dirty : (state g new).is_clean ≡ false → (state g new).is_open ≡ false)
    (good : IsCleanStore g before → Good (kept_world g before))
    (leaves : IsCleanStore g before → Good (changed (kept_world g before) change)) where
  abbrev seen : StoreState S
  seen = record { conn = old; own = own; faults = few }

  abbrev now : StoreState S
  now = record { conn = new; own = own; faults = few }

  law : IsTrue (state g new).is_open → HasCleanDisk (state g new)
  law = clean_if_open (state g new).is_clean (state g new).is_open dirty

  known : IsTrue own → IsCurrentSchema old.schema
  known = subst (λ (s : StoreState S). IsTrue s.own → IsCurrentSchema s.conn.schema) (sym is) is_own

  fine : IsCleanStore g seen → Good (kept_world g seen)
  fine = subst (λ s. IsCleanStore g s → Good (kept_world g s)) (sym is) good

  turns : IsCleanStore g seen → (after : Database) → IsTransition change (state g old).now after
      → HasChanged change (state g old).now after
  turns on after turn = turn (kept.ready on.0 on.1).holds (fine on)
      (subst (λ s. IsCleanStore g s → Good (changed (kept_world g s) change)) (sym is) leaves on)

  turned : IsTrue own → Commits (IsTransition change) (state g old) (state g new)
      → HasChanged change (state g old).now (state g new).now
  turned mine done = turns (mine, done.was_open) (state g new).now done.changed

  -- what a crash leaves, by the tables seen before: an open store leaves only what is committed
  pub change_left : ((db : Trees) → IsTrue (state g old).is_open → (state g old).may_leave db → db ≡ (state g old).committed.trees)
      → Survives (state g old) (state g new) (λ db. IsCurrentSchema old.schema → IsAfter (IsTransition change) (state g old) db)
      → IsCleanStore g before → HasCleanDisk (state g new) → (db : Trees) → (state g new).may_leave db
      → IsLeft change (state g before.conn).now db
  change_left settled survives on clean db leaves_it =
      let mine : IsCleanStore g seen = subst (λ s. IsCleanStore g s) (sym is) on in
      let left : IsLeft change (state g old).now db = elim (survives.crash clean db leaves_it) [
        | inl earlier ↦ inl (settled db mine.1 earlier ∙ ap (λ (d : Database). d.trees) (kept.ready mine.0 mine.1).settled)
        | inr left ↦ let made = left (known mine.0) in inr (made.0, turns mine made.0 made.1, made.2)
      ] in
      subst (λ (s : StoreState S). IsLeft change (state g s.conn).now db) is left

  -- what it leaves is consistent: what one before the change left, or what the change made
  left_by : LeavesMade (IsTransition change) (state g old) (state g new) → IsTrue own → HasCleanDisk (state g new)
      → (db : Trees) → (state g new).may_leave db → AreConsistent db
  left_by made mine clean db may = elim (made.crash clean db may) [
    | inl earlier ↦ kept.left mine (omega (arith, made.clean, clean)) db earlier
    | inr left ↦ let after = left.1 (known mine) in (after.0, after.2, (turns (mine, left.0) after.0 after.1).holds)
  ]

  module _ {V E : Type 0} where
    abbrev Ends : Result V E → Type 0
    Ends r = CommitsChange (IsTransition change) r (state g old) (state g new)

    was_open : (r : Result V E) → Ends r → IsTrue own → IsTrue (state g new).is_open → IsTrue (state g old).is_open
    was_open (Ok v) ends mine on = (ends.ok (known mine) (law on)).was_open
    was_open (Err e) ends mine on = (ends.err (known mine) (law on) on).0

    pub change_keeps : (r : Result V E) → Ends r → LeavesMade (IsTransition change) (state g old) (state g new)
        → IsKept g new own
    change_keeps (Ok v) ends made = record {
      idle = ends.mode kept.idle;
      left = left_by made;
      ready = λ mine on. let d = ends.ok (known mine) (law on) in record { settled = d.settled; holds = (turned mine d).holds };
    }
    change_keeps (Err e) ends made = still g old new own kept (ends.mode kept.idle) (left_by made)
        (λ mine on. ends.err (known mine) (law on) on)

    made_by : (r : Result V E) → Ends r
        → OnOk r (IsCleanStore g now → world_of (state g new).now.trees ≡ changed (kept_world g seen) change)
    made_by (Ok v) ends = λ on. (turned on.0 (ends.ok (known on.0) (law on.1))).world
    made_by (Err e) ends = tt

    same_by : (r : Result V E) → Ends r
        → OnErr r (IsCleanStore g now → world_of (state g new).now.trees ≡ kept_world g seen)
    same_by (Ok v) ends = tt
    same_by (Err e) ends = λ on. ap (λ (d : Database). world_of d.trees) (ends.err (known on.0) (law on.1) on.1).1

    pub change_made : (r : Result V E) → Ends r
        → OnOk r (IsCleanStore g now → world_of (state g new).now.trees ≡ changed (kept_world g before) change)
    change_made r ends = subst (λ s. OnOk r (IsCleanStore g now → world_of (state g new).now.trees ≡ changed (kept_world g s) change)) is
        (made_by r ends)

    pub change_same : (r : Result V E) → Ends r
        → OnErr r (IsCleanStore g now → world_of (state g new).now.trees ≡ kept_world g before)
    change_same r ends = subst (λ s. OnErr r (IsCleanStore g now → world_of (state g new).now.trees ≡ kept_world g s)) is (same_by r ends)

    -- what is remembered is right: what follows after a change that was made, and otherwise what it was
    pub change_follows : {X : Type 0} (P : X → World → Type 0) (m n : X)
        → (IsCleanStore g seen → HasCleanDisk (state g new) → P m (kept_world g seen)) → (r : Result V E) → Ends r
        → OnOk r ((w : World) → Sound w → P m w → P n (changed w change)) → OnErr r (n ≡ m) → IsCleanStore g now
        → P n (world_of (state g new).now.trees)
    change_follows P m n was (Ok v) ends follows stayed on =
        let mine : IsCleanStore g seen = (on.0, was_open (Ok v) ends on.0 on.1) in
        subst (P n) (sym (made_by (Ok v) ends on)) (follows (kept_world g seen) (fine mine).sound (was mine (law on.1)))
    change_follows P m n was (Err e) ends follows stayed on =
        subst (λ k. P k (world_of (state g new).now.trees)) (sym stayed)
        (subst (P m) (sym (same_by (Err e) ends on)) (was (on.0, was_open (Err e) ends on.0 on.1) (law on.1)))

    pub change_call : (many : ℕ)
        → ((db : Trees) → IsTrue (state g new).is_open → (state g new).may_leave db → db ≡ (state g new).committed.trees)
        → (r : Result V E) → Ends r → IsKept g new own
        → Call g r (λ s w. IsCleanStore g s → w ≡ changed (kept_world g s) change) (record { conn = new; own = own; faults = many }) before
    change_call many settled r ends keeps =
        called g old new own few many keeps settled _ ends.crash (was_open r ends)
        (λ s w. IsCleanStore g s → w ≡ changed (kept_world g s) change)
        (λ own clean db left mine. let made = left (known own) in ap world_of made.2 ∙ (turns mine made.0 made.1).world) r
        (λ clean mine. on_ok_weaker r (λ done. done.is_open) (ends.ok (known mine) clean)) before is

-- what is known after a call that read
pub record ReadBy {S V E : Type 0} (g : Ghosts S) (old new : Held S) (own : Bool) (few : ℕ) (before : StoreState S)
    (Right : Database → Type 0) (Told : Database → Result V E → Type 0) (x : Result V E) : Type 0 where
  pub kept : IsKept g new own
  pub was : IsCleanStore g (record { conn = new; own = own; faults = few })
      → IsCleanStore g (record { conn = old; own = own; faults = few })
  pub world : IsCleanStore g (record { conn = new; own = own; faults = few })
      → world_of (state g new).now.trees ≡ world_of (state g old).now.trees
  pub same : IsCleanStore g (record { conn = new; own = own; faults = few })
      → world_of (state g new).now.trees ≡ kept_world g before
  -- what is told, where a call may rely on what is kept
  pub told : (IsConsistent (state g old).now → IsCleanStore g (record { conn = old; own = own; faults = few }) → Right (state g old).now)
      → IsCleanStore g (record { conn = new; own = own; faults = few }) → Told (state g old).now x
  pub call : (many : ℕ)
      → ((db : Trees) → IsTrue (state g new).is_open → (state g new).may_leave db → db ≡ (state g new).committed.trees)
      → (r : Result V KeepFault) → IsSameUpToFault x r
      → Call g r (λ s w. ⊥) (record { conn = new; own = own; faults = many }) before

module _
    {S V E : Type 0}
    {g : Ghosts S}
    {old : Held S}
    (new : Held S)
    {own : Bool}
    {few : ℕ}
    {before : StoreState S}
    (is : ◌≡◌ {A = StoreState S} (record { conn = old; own = own; faults = few }) before)
    (kept : IsKept g old own)
    (is_own : IsTrue before.own → IsCurrentSchema before.conn.schema)
    (dirty : (state g new).is_clean ≡ false → (state g new).is_open ≡ false)
    {x : Result V E}
    {Right : Database → Type 0}
    {IsOf : E → Type 0}
    {Told : Database → Result V E → Type 0}
    (reads : Reading Second Anyhow Right IsOf Told x (state g old) (state g new)) where
  shut : IsTrue (state g new).is_open → HasCleanDisk (state g new)
  shut = clean_if_open (state g new).is_clean (state g new).is_open dirty

  rest : IsTrue own → IsTrue (state g new).is_open → Stays (state g old) (state g new)
  rest mine on = (looks_by x reads).stays (λ up. sym (kept.ready mine up).settled) (shut on) on

  left_still : IsTrue own → HasCleanDisk (state g new) → (db : Trees) → (state g new).may_leave db → AreConsistent db
  left_still mine clean db may = elim (reads.crash.crash clean db may) [
    | inl earlier ↦ kept.left mine
        (omega (arith, reads.crash.clean, clean)) db earlier
    | inr never ↦ absurd never
  ]

  pub read_by : ReadBy g old new own few before Right Told x
  read_by =
      let keeps : IsKept g new own = still g old new own kept (reads.mode kept.idle) left_still rest in
      record {
        kept = keeps;
        was = λ on. (on.0, (rest on.0 on.1).0);
        world = λ on. ap (λ (d : Database). world_of d.trees) (rest on.0 on.1).1;
        same = λ on. ap (λ (d : Database). world_of d.trees) (rest on.0 on.1).1 ∙ ap (λ s. kept_world g s) is;
        told = λ right on.
            let was = (rest on.0 on.1).0 in
            reads.told (subst (λ (s : StoreState S). IsTrue s.own → IsCurrentSchema s.conn.schema) (sym is) is_own on.0)
            (right (kept.ready on.0 was).holds (on.0, was)) (shut on.1);
        call = λ many settled r told.
            called g old new own few many keeps settled (λ _. ⊥) reads.crash (λ mine on. (rest mine on).0) (λ s w. ⊥)
            (λ mine clean db never. absurd never) r
            (λ clean mine. told_if _ x r told (on_ok_weaker x (λ (unchanged : IsUnchanged (state g old) (state g new)). unchanged.0.is_open)
            (reads.same clean tt))) before is;
      }

-- what follows of an answer, whatever it is, from what is said of it under a premise
pub when_ok : {V E : Type 0} (C : Type 0) (A B : V → Type 0) (r : Result V E) → (C → IfOk r A)
    → ((v : V) → (C → A v) → B v) → IfOk r B
when_ok C A B (Ok v) h more = more v h
when_ok C A B (Err e) h more = tt

pub lasts_in_memory : LastsInMemory
lasts_in_memory old new lasts clean = elim
    (lasts (clean_if_open true true (λ no. absurd (cc)) clean.1) clean) [ inl on ↦ on | inr failed ↦ absurd (omega (arith, failed)) ]

pub disk_in_memory : DiskInMemory
disk_in_memory s = clean_if_open true true (λ no. absurd (cc)) refl

pub unbroken_in_memory : UnbrokenInMemory
unbroken_in_memory s bad = absurd (omega (arith, bad.failed))
