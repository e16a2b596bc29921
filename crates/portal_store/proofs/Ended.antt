-- How a call ends that makes a change: of one transaction, after a query or with none.
use Rattle.portal_store.proofs.Base.{◌∙◌, ◌≡◌, Anyhow, Commits, CommitsChange, Database, Err, HasCleanDisk, IsAfter}
use Rattle.portal_store.proofs.Base.{IsCurrentSchema, IsErr, IsTrue, IsUnchanged, IsUnchangedOrUndone, Ok, OnErr, OnOk}
use Rattle.portal_store.proofs.Base.{Reading, Result, Round, State, Stays, Survives, Trees, ap, clean_before}
use Rattle.portal_store.proofs.Base.{commits_asked, false, inl, on_err_weaker, on_ok_weaker, stays_left, subst}
use Rattle.portal_store.proofs.Base.{survives_then, survives_weaker, sym, LeavesOnly, IsCommitted, commits_none}
use Rattle.portal_store.proofs.Base.{LeavesMade, IsSameUpToFault, IfOk}

-- the tables are read, and then the change is made, or not
pub ends_then : {round : Round} {Right : Database → Type 0} {U F V E : Type 0} {IsOf : F → Type 0}
    {Told : Database → Result U F → Type 0} {C D : Database
    → Database → Type 0} {u : U} {r : Result V E} {old mid new : State}
    → Reading round Anyhow Right IsOf Told (Ok u) old mid → CommitsChange C r mid new
    → (IsCurrentSchema old.now.schema → HasCleanDisk mid → (after : Database) → C old.now after → D old.now after)
    → CommitsChange D r old new
ends_then {C = C} {D = D} {r = r} {old} {mid} {new} reads then more =
    let before : HasCleanDisk new → HasCleanDisk mid = clean_before mid new _ then.crash in
    let same : HasCleanDisk mid → IsUnchanged old mid = λ clean. reads.same clean tt in
    let mine : IsUnchanged old mid → IsCurrentSchema old.now.schema
    → IsCurrentSchema mid.now.schema = λ m own. subst (λ (d : Database). IsCurrentSchema d.schema) (sym m.0.now_is) own in
    record {
      ok = λ own clean. let m = same (before clean) in
          on_ok_weaker r (commits_asked old mid new C D (more own) (before clean) m) (then.ok (mine m own) clean);
      err = λ own clean on. let m = same (before clean) in
          on_err_weaker r (λ s. (m.0.was_open, s.1 ∙ m.0.now_is, s.2 ∙ m.0.committed_is)) (then.err (mine m own) clean on);
      mode = λ idle. then.mode (reads.mode idle);
      durable = λ own clean. then.durable (mine (same (before clean)) own) clean;
      crash = survives_then old mid new _ _ (λ db. IsCurrentSchema old.now.schema → IsAfter D old db) (λ clean db no own. absurd no)
          (λ clean db left own.
          let m = same (before clean) in
          let l = left (mine m own) in
          (l.0, more own (before clean) l.0 (subst (λ d. C d l.0) m.0.now_is l.1), l.2))
          reads.crash then.crash;
    }

-- the tables are read first, so that a change is one of an open connection
pub leaves_then : {round : Round} {Right : Database → Type 0} {U F V E : Type 0} {IsOf : F → Type 0}
    {Told : Database → Result U F → Type 0} {C : Database
    → Database → Type 0} (D : Database → Database → Type 0) {u : U} {r : Result V E} {old mid new : State}
    → Reading round Anyhow Right IsOf Told (Ok u) old mid → CommitsChange C r mid new
    → (IsCurrentSchema old.now.schema → HasCleanDisk mid → (after : Database) → C old.now after → D old.now after) → LeavesMade D old new
leaves_then {C = C} D {old = old} {mid} {new} reads then more =
    survives_then old mid new _ _ (λ db. IsTrue old.is_open × (IsCurrentSchema old.now.schema → IsAfter D old db))
    (λ clean db no. absurd no)
    (λ clean db left.
    let early = clean_before mid new _ then.crash clean in
    let m = reads.same early tt in (
      m.0.was_open,
      λ own. let l = left (subst (λ (d : Database). IsCurrentSchema d.schema) (sym m.0.now_is) own) in
          (l.0, more own early l.0 (subst (λ d. C d l.0) m.0.now_is l.1), l.2),
    ))
    reads.crash then.crash

-- the same of what the change makes more
pub ends_more : {V E : Type 0} {C D : Database → Database → Type 0} {r : Result V E} {old new : State}
    → CommitsChange C r old new → ((after : Database) → C old.now after → D old.now after) → CommitsChange D r old new
ends_more {r = r} {old} {new} h more = record {
  ok = λ own clean. on_ok_weaker r (λ d. record {
    was_open = d.was_open;
    is_open = d.is_open;
    settled = d.settled;
    changed = more new.now d.changed;
  }) (h.ok own clean);
  err = h.err;
  mode = h.mode;
  durable = h.durable;
  crash = survives_weaker old new _ _ (λ clean db left own. let l = left own in (l.0, more l.0 l.1, l.2)) h.crash;
}

-- one transaction alone
pub ends_by : {V E : Type 0} (D : Database → Database → Type 0) (r : Result V E) (old new : State)
    → new.in_transaction ≡ false → (HasCleanDisk new → OnOk r (Commits D old new))
    → (HasCleanDisk new → IsTrue new.is_open → OnErr r (Stays old new))
    → (HasCleanDisk new → OnOk r (LeavesOnly new)) → Survives old new (IsAfter D old) → CommitsChange D r old new
ends_by D r old new idle ok err durable crash =
    record {
      ok = λ own. ok;
      err = λ own. err;
      mode = λ _. idle;
      durable = λ own. durable;
      crash = survives_weaker old new _ _ (λ clean db left own. left) crash;
    }

-- the tables are read, and one transaction makes the change
module _
    {V E : Type 0}
    (C : Database → Database → Type 0)
    {D : Database → Database → Type 0}
    {r : Result V E}
    {old mid new : State}
    (idle : new.in_transaction ≡ false)
    (ok : HasCleanDisk new → OnOk r (Commits C mid new))
    (err : HasCleanDisk new → IsTrue new.is_open → OnErr r (Stays mid new))
    (durable : HasCleanDisk new → OnOk r (LeavesOnly new))
    (crash : Survives mid new (IsAfter C mid)) where
  pub ends_asked : {round : Round} {Right : Database → Type 0} {U F : Type 0} {IsOf : F → Type 0}
      {Told : Database → Result U F → Type 0} {u : U}
      → Reading round Anyhow Right IsOf Told (Ok u) old mid
      → (IsCurrentSchema old.now.schema → HasCleanDisk mid → (after : Database) → C old.now after → D old.now after)
      → CommitsChange D r old new
  ends_asked reads more = ends_then reads (ends_by C r mid new idle ok err durable crash) more

-- the tables are read, and that or what comes of it is refused
pub ends_refused : {round : Round} {Right : Database → Type 0} {U F V E : Type 0} {IsOf : F → Type 0}
    {Told : Database → Result U F → Type 0} {D : Database
    → Database → Type 0} {x : Result U F} {r : Result V E} {old new : State}
    → IsErr r → IsCommitted old → Reading round Anyhow Right IsOf Told x old new → CommitsChange D r old new
ends_refused {r = Ok v} is settled reads = absurd (cc)
ends_refused {U = U} {F} {x = x} {r = Err e} {old} {new} is settled reads = record {
  ok = λ own clean. tt;
  err = λ own clean on. stays_left old new settled (either x (reads.same clean tt) (reads.err clean tt)) on;
  mode = reads.mode;
  durable = λ own clean. tt;
  crash = survives_weaker old new _ _ (λ clean db no own. absurd no) reads.crash;
}
  where
    either : (x : Result U F) → OnOk x (IsUnchanged old new) → OnErr x (IsUnchangedOrUndone old new)
        → IsUnchangedOrUndone old new
    either (Ok u) same err = inl same
    either (Err d) same err = err

-- the tables are read, and there is nothing to do: what is open leaves what is committed alone
pub ends_none : {round : Round} {Right : Database → Type 0} {U F V E : Type 0} {IsOf : F → Type 0}
    {Told : Database → Result U F → Type 0} {D : Database
    → Database → Type 0} {u : U} {v : V} {old new : State}
    → IsCommitted old → ((db : Trees) → IsTrue new.is_open → new.may_leave db → db ≡ new.committed.trees)
    → Reading round Anyhow Right IsOf Told (Ok u) old new → (IsCurrentSchema old.now.schema → HasCleanDisk new → D old.now old.now)
    → CommitsChange {V = V} {E = E} D (Ok v) old new
ends_none {D = D} {old = old} {new} settled law reads done = record {
  ok = λ own clean. commits_none old new D settled (reads.same clean tt) (done own clean);
  err = λ own clean on. tt;
  mode = reads.mode;
  durable = λ own clean db leaves.
      let same = reads.same clean tt in
      law db same.0.is_open leaves ∙ ap (λ (d : Database). d.trees)
      (same.0.committed_is ∙ sym (settled same.0.was_open) ∙ sym same.0.now_is);
  crash = survives_weaker old new _ _ (λ clean db no own. absurd no) reads.crash;
}

-- the same, with another fault for a fault
pub ends_told : {V E F : Type 0} {D : Database → Database → Type 0} {x : Result V E} {r : Result V F} {old new : State}
    → IsSameUpToFault x r → CommitsChange D x old new → CommitsChange D r old new
ends_told {D = D} {x = Ok v} {old = old} {new} is h =
    subst (λ r. CommitsChange D r old new) (sym is) (record { ok = h.ok; err = h.err; mode = h.mode; durable = h.durable; crash = h.crash })
ends_told {x = Err e} {r = Ok v} is h = absurd is
ends_told {x = Err e} {r = Err f} is h =
    record { ok = λ own clean. tt; err = h.err; mode = h.mode; durable = λ own clean. tt; crash = h.crash }

-- what is said of an answer
pub told_if : {V E F : Type 0} (P : V → Type 0) (x : Result V E) (r : Result V F) → IsSameUpToFault x r → IfOk x P
    → IfOk r P
told_if P (Ok v) r is h = subst (λ r. IfOk r P) (sym is) h
told_if P (Err e) (Ok v) is h = absurd is
told_if P (Err e) (Err f) is h = tt
