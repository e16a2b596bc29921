-- Reads in turn, and what follows of what they tell.
use Rattle.portal_tables.proofs.Base.{◌≡◌, ◌<◌, ◌≤◌, arith, ℕ, length, get_or, ◌+◌, ◌++◌, ◌∷◌, [], map, option_map}
use Rattle.portal_tables.proofs.Base.{None, Some, AllByRecursion, all-get_or, take, take_more, Option, cons_option}
use Rattle.portal_tables.proofs.Base.{filter_map, filter_map-append, IsErr, List, IfOk, inl, inr, Ok, Err, Result, refl}
use Rattle.portal_tables.proofs.Base.{sym, ap, ap₂, subst, ◌∙◌, Database, State, HasCleanDisk, IsUnchanged, Survives}
use Rattle.portal_tables.proofs.Base.{survives_then, unchanged, unchanged_then, rolled_back_since, Round, First, Second}
use Rattle.portal_tables.proofs.Base.{HasRound, IsTrue, OnOk, OnErr, IsCommitted, OnlyLooks, Stays, IsUnchangedOrUndone}
use Rattle.portal_tables.proofs.Base.{on_ok_weaker, on_err_weaker, Reading, Anyhow, IfOpen, TableFault, Damaged}
use Rattle.portal_tables.proofs.Base.{MatchResult, IsErrAnd, Memory, Blames, IfErr, IfErr-weaker, IsSome, cases_Bool}
use Rattle.portal_tables.proofs.Base.{HasReason, IsStoreFault, IsOtherError, Store, Error, ◌↔◌, NoFault}
use Rattle.portal_tables.specs.inner.Base.{SqliteFailure, OutOfMemory}
use Rattle.portal_tables.proofs.Owned.{current_own}
use Rattle.portal_tables.proofs.Queries.{on_ok, on_err}

pub then_leaves : (a b c : State) → a.faults ≤ b.faults → IsUnchanged a b → IsUnchangedOrUndone b c
    → IsUnchangedOrUndone a c
then_leaves a b c counts p (inl q) = inl (unchanged_then a b c p q)
then_leaves a b c counts p (inr q) = inr (rolled_back_since a b c p counts q)

-- a reason of the second of two calls is one of both
pub reason_since : (a b c : State) (P : _) → Survives a b P → b.faults ≤ c.faults → HasCleanDisk b → HasReason b c
    → HasReason a c
reason_since a b c P h later clean (inl more) = inl (let first = h.counts in omega (arith, more, first))
reason_since a b c P h later clean (inr (inl shut)) = elim (cases_Bool a.is_open) [
  | inl on ↦ elim (h.closes clean on) [
    | inl up ↦ absurd (let e = rw shut at up in cc)
    | inr more ↦ inl (omega (arith, more, later))
  ]
  | inr off ↦ inr (inl off)
]
reason_since a b c P h later clean (inr (inr limit)) = inr (inr (subst IsSome h.limit limit))

-- an error that is not the store's, and one that is if another was
pub calm : {V E : Type 0} (IsStores : E → Type 0) (r : Result V E) → IfErr r (λ e. IsStores e → ⊥) → (Why : Type 0)
    → IfErr r (λ e. IsStores e → Why)
calm IsStores (Ok v) h Why = tt
calm IsStores (Err e) h Why = λ its. absurd (h its)

pub IsErrAnd-IfErr : {V E : Type 0} (r : Result V E) (P Q : E → Type 0) → IsErrAnd r P → ((e : E) → P e → Q e) → IfErr r Q
IsErrAnd-IfErr (Ok v) P Q h so = tt
IsErrAnd-IfErr (Err e) P Q h so = so e h

pub IfErr-known : {V E : Type 0} (r : Result V E) (P : E → Type 0) → ((e : E) → r ≡ Err e → P e) → IfErr r P
IfErr-known (Ok v) P so = tt
IfErr-known (Err e) P so = so e refl

-- a result has its own faults; one that is not the store's, by a clause; and what an error of `sqlite` becomes
pub its_own : {V E : Type 0} (IsStores : E → Type 0) (r : Result V E) → IfErr r (λ e. IsStores e → IsErrAnd r IsStores)
its_own IsStores (Ok v) = tt
its_own IsStores (Err e) = λ its. its

pub unsaid : {V E : Type 0} (P : E → Type 0) (r : Result V E) → IfErr r (λ e. NoFault e → P e)
unsaid P (Ok v) = tt
unsaid P (Err e) = λ none. absurd none

pub not_stores : {V : Type 0} (r : Result V TableFault) → (r ≡ Err Store → ⊥) → IfErr r (λ fault. IsStoreFault fault → ⊥)
not_stores (Ok v) never = tt
not_stores (Err fault) never = λ its. never (ap Err its)

pub converted : {V : Type 0} (r : Result V TableFault) (e : Error)
    → IsErrAnd r (λ fault. ((fault ≡ Memory) ↔ (e ≡ SqliteFailure OutOfMemory)) × (fault ≡ Damaged → ⊥))
    → IfErr r (λ fault. IsStoreFault fault → IsOtherError e)
converted (Ok v) e gives = tt
converted (Err fault) e gives = λ its none. let short = gives.0.1 none in absurd (cc)

pub clean_before : (b c : State) (P : _) → Survives b c P → HasCleanDisk c → HasCleanDisk b
clean_before b c P h clean = omega (arith, h.clean, clean)

module _ {round : Round} {Right : Database → Type 0} {V E : Type 0} {IsStores : E → Type 0} {Told : Database → Result V E → Type 0} where
  -- no query is made
  pub reads_self : {r : Result V E} {s : State} → IfErr r (λ e. IsStores e → ⊥)
      → (HasRound round s.now.schema → Right s.now → Told s.now r) → Reading round IfOpen Right IsStores Told r s s
  reads_self {r} {s} other told = record {
    same = λ clean on. on_ok _ r (unchanged s on);
    err = λ clean on. on_err (IsUnchangedOrUndone s s) r (inl (unchanged s on));
    now = λ clean. on_ok _ r refl;
    mode = λ idle. idle;
    crash = record {
      clean = omega arith;
      shield = λ h. h;
      counts = omega arith;
      limit = refl;
      closes = λ clean on. inl on;
      crash = λ clean db h. inl h;
    };
    told = λ own right clean. told own right;
    reason = λ own clean. calm IsStores r other (HasReason s s);
  }

  module _ {r : Result V E} {a b : State} where
    -- a query is sure to be made, and perhaps none is
    pub reads_open : {On : State → Type 0} → Reading round Anyhow Right IsStores Told r a b
        → Reading round On Right IsStores Told r a b
    reads_open h = record {
      same = λ clean on. h.same clean tt;
      err = λ clean on. h.err clean tt;
      now = h.now;
      mode = h.mode;
      crash = h.crash;
      told = h.told;
      reason = h.reason;
    }

    -- of the tables of more rounds, and of a database of which more is known
    pub reads_of : {there : Round} {Known : Database → Type 0} {On : State → Type 0}
        → (HasRound there a.now.schema → HasRound round a.now.schema)
        → (HasRound there a.now.schema → Known a.now → Right a.now)
        → Reading round On Right IsStores Told r a b → Reading there On Known IsStores Told r a b
    reads_of wide right h = record {
      same = h.same;
      err = h.err;
      now = h.now;
      mode = h.mode;
      crash = h.crash;
      told = λ own known. h.told (wide own) (right own known);
      reason = λ own. h.reason (wide own);
    }

    -- of more rounds alone
    pub reads_wide : {there : Round} {On : State → Type 0} → (HasRound there a.now.schema → HasRound round a.now.schema)
        → Reading round On Right IsStores Told r a b → Reading there On Right IsStores Told r a b
    reads_wide wide h = reads_of wide (λ own right. right) h

pub reads_both : {On : State → Type 0} {Right : Database → Type 0} {V E : Type 0} {IsStores : E → Type 0} {Told : Database → Result V E
    → Type 0} {r : Result V E} {a b : State}
    → Reading First On Right IsStores Told r a b → Reading Second On Right IsStores Told r a b
reads_both {a = a} h = reads_wide (current_own a.now.schema) h

module _ {round : Round} {On : State → Type 0} {Right : Database → Type 0} {U D : Type 0} {IsOf : D → Type 0}
    {T : Database → Result U D → Type 0} where
  -- the same read, where something else is made of its result: an error of each error, and none of
  -- the store of another one
  pub reads_as : {V E : Type 0} {IsStores : E → Type 0} {Told : Database → Result V E → Type 0} {x : Result U D} {r : Result V E}
      {a b : State}
      → IfErr r (λ e. IsStores e → IsErrAnd x IsOf) → Reading round On Right IsOf T x a b → (IsErr x → IsErr r)
      → (HasRound round a.now.schema → Right a.now → T a.now x → Told a.now r) → Reading round On Right IsStores Told r a b
  reads_as {x = Ok u} {r = Ok v} same h fails so =
      record {
        same = h.same;
        err = λ clean on. tt;
        now = h.now;
        mode = h.mode;
        crash = h.crash;
        told = λ own right clean. so own right (h.told own right clean);
        reason = λ own clean. tt;
      }
  reads_as {x = Ok u} {r = Err e} same h fails so =
      record {
        same = λ clean on. tt;
        err = λ clean on. inl (h.same clean on);
        now = λ clean. tt;
        mode = h.mode;
        crash = h.crash;
        told = λ own right clean. so own right (h.told own right clean);
        reason = λ own clean its. absurd (same its);
      }
  reads_as {x = Err d} {r = Ok v} same h fails so = let no = fails refl in absurd (cc)
  reads_as {x = Err d} {r = Err e} same h fails so =
      record {
        same = λ clean on. tt;
        err = h.err;
        now = λ clean. tt;
        mode = h.mode;
        crash = h.crash;
        told = λ own right clean. so own right (h.told own right clean);
        reason = λ own clean its. h.reason own clean (same its);
      }

  -- what was answered is worked on, and no fault of the store is made of it
  pub reads_more : {V E : Type 0} {IsStores : E → Type 0} {Told : Database → Result V E → Type 0} {u : U} {r : Result V E} {a b : State}
      → IfErr r (λ e. IsStores e → ⊥) → Reading round On Right IsOf T (Ok u) a b
      → (HasRound round a.now.schema → Right a.now → T a.now (Ok u) → Told a.now r) → Reading round On Right IsStores Told r a b
  reads_more {IsStores = IsStores} {r = r} other h so = reads_as (calm IsStores r other ⊥) h (λ no. absurd (cc)) so

  -- an error is handed on
  pub reads_handed : {V : Type 0} {Told : Database → Result V D → Type 0} {e : D} {r : Result V D} {a b : State}
      → IsErrAnd r (λ f. f ≡ e) → Reading round On Right IsOf T (Err e) a b
      → (HasRound round a.now.schema → Right a.now → T a.now (Err e) → Told a.now (Err e)) → Reading round On Right IsOf Told r a b
  reads_handed {r = Ok v} is h so = absurd is
  reads_handed {Told = Told} {r = Err f} {a} {b} is h so =
      subst (λ f. Reading round On Right IsOf Told (Err f) a b) (sym is) (reads_as (λ its. its) h (λ no. no) so)

  -- there is not enough memory for what was answered
  pub reads_short : {V : Type 0} {Told : Database → Result V TableFault → Type 0} {u : U} {r : Result V TableFault} {a b : State}
      → IsErrAnd r (λ f. f ≡ Memory) → Reading round On Right IsOf T (Ok u) a b
      → (HasRound round a.now.schema → Right a.now → T a.now (Ok u) → Told a.now (Err Memory))
      → Reading round On Right IsStoreFault Told r a b
  reads_short {r = Ok v} is h so = absurd is
  reads_short {Told = Told} {r = Err f} {a} {b} is h so =
      subst (λ f. Reading round On Right IsStoreFault Told (Err f) a b) (sym is) (reads_more (λ its. absurd (cc)) h so)

  -- another read after one that answered, each of the same tables: of a database of which something
  -- is known by then, and of the same one
  module _ {V E : Type 0} {IsStores : E → Type 0} {N : Database → Result V E → Type 0} {u : U} {r : Result V E} {a b c : State} where
    pub reads_then_of : {Known : Database → Type 0}
        → (HasRound round a.now.schema → (On a → IfOpen a) → Right a.now → T a.now (Ok u) → Known a.now)
        → Reading round On Right IsOf T (Ok u) a b → Reading round IfOpen Known IsStores N r b c
        → Reading round On Right IsStores (λ db r. T db (Ok u) × N db r) r a c
    reads_then_of {Known} known p q =
        let before : HasCleanDisk c → HasCleanDisk b = clean_before b c _ q.crash in
        let middle : HasCleanDisk c → On a → IsUnchanged a b = λ clean on. p.same (before clean) on in
        record {
          same = λ clean on. let m = middle clean on in on_ok_weaker r (unchanged_then a b c m) (q.same clean m.0.is_open);
          err = λ clean on. let m = middle clean on in on_err_weaker r (then_leaves a b c p.crash.counts m) (q.err clean m.0.is_open);
          now = λ clean. let m = p.now (before clean) in on_ok_weaker r (λ e. e ∙ m) (q.now clean);
          mode = λ idle. q.mode (p.mode idle);
          crash = survives_then a b c _ _ _ (λ clean db no. no) (λ clean db no. no) p.crash q.crash;
          told = λ own right clean.
              let early = before clean in
              let t = p.told own right early in (
                t,
                subst (λ (d : Database). HasRound round d.schema → Known d → N d r) (p.now early)
                    (λ own known. q.told own known clean) own (known own (λ on. (p.same early on).0.was_open) right t),
              );
          reason = λ own clean.
              let early = before clean in
              let there : HasRound round b.now.schema = subst (λ (d : Database). HasRound round d.schema) (sym (p.now early)) own in
              IfErr-weaker r _ _ (λ e why its. reason_since a b c _ p.crash q.crash.counts early (why its)) (q.reason there clean);
        }

    pub reads_then : Reading round On Right IsOf T (Ok u) a b → Reading round IfOpen Right IsStores N r b c
        → Reading round On Right IsStores (λ db r. T db (Ok u) × N db r) r a c
    reads_then p q = reads_then_of (λ own on right told. right) p q

-- what at most undoes a transaction that is not there changes nothing
pub stays_left : (old new : State) → IsCommitted old → IsUnchangedOrUndone old new → IsTrue new.is_open → Stays old new
stays_left old new settled (inl same) on = (same.0.was_open, same.0.now_is, same.0.committed_is)
stays_left old new settled (inr undone) on =
    let first = undone.was_open on in
    let was = undone.undone on in
    (first, was.0 ∙ sym (settled first), was.1)

-- a read only looks, whatever it answers
pub looks_by : {round : Round} {Right : Database → Type 0} {V E : Type 0} {IsStores : E → Type 0} {Told : Database → Result V E → Type 0}
    (r : Result V E) {a b : State}
    → Reading round Anyhow Right IsStores Told r a b → OnlyLooks a b
looks_by r {a} {b} h = record {
  stays = λ settled clean on. stays_left a b settled (either r (h.same clean tt) (h.err clean tt)) on;
  mode = h.mode;
  crash = h.crash;
}
  where
    either : {V E : Type 0} {a b : State} (r : Result V E) → OnOk r (IsUnchanged a b)
        → OnErr r (IsUnchangedOrUndone a b) → IsUnchangedOrUndone a b
    either (Ok v) same err = inl same
    either (Err e) same err = err

-- no call only looks, and so do two in turn
pub looks_never : (s : State) → OnlyLooks s s
looks_never s = record {
  stays = λ settled clean on. (on, refl, refl);
  mode = λ idle. idle;
  crash = record {
    clean = omega arith;
    shield = λ h. h;
    counts = omega arith;
    limit = refl;
    closes = λ clean on. inl on;
    crash = λ clean db h. inl h;
  };
}

pub stays_then : (a b c : State) → Stays a b → Stays b c → Stays a c
stays_then a b c p q = (p.0, q.1 ∙ p.1, q.2 ∙ p.2)

pub settled_still : (a b : State) → IsCommitted a → Stays a b → b.now ≡ b.committed
settled_still a b settled p = p.1 ∙ settled p.0 ∙ sym p.2

pub looks_then : (a b c : State) → OnlyLooks a b → OnlyLooks b c → OnlyLooks a c
looks_then a b c p q = record {
  stays = λ settled clean on.
      let early = clean_before b c _ q.crash clean in
      let here : Stays b c = q.stays (λ up. settled_still a b settled (p.stays settled early up)) clean on in
      stays_then a b c (p.stays settled early here.0) here;
  mode = λ idle. q.mode (p.mode idle);
  crash = survives_then a b c _ _ _ (λ clean db no. no) (λ clean db no. no) p.crash q.crash;
}

-- an error that is handed on blames the rows if it did, and a shortage of memory never does
pub blamed : {V W : Type 0} (r : Result V TableFault) (fault : TableFault) → IsErrAnd r (λ f. f ≡ fault) → r ≡ Err Damaged
    → ◌≡◌ {A = Result W TableFault} (Err fault) (Err Damaged)
blamed (Ok v) fault is told = absurd is
blamed (Err f) fault is told = cc

pub not_blamed : {V : Type 0} (r : Result V TableFault) → IsErrAnd r (λ f. f ≡ Memory) → r ≡ Err Damaged → ⊥
not_blamed (Ok v) is told = absurd is
not_blamed (Err f) is told = absurd (cc)

-- an answer and an error, each by what is known of it
pub answered : {V E : Type 0} (r : Result V E) (P : V → Type 0) (Q : E → Type 0) → IfOk r P
    → ((e : E) → r ≡ Err e → Q e) → MatchResult r P Q
answered (Ok v) P Q ok err = ok
answered (Err e) P Q ok err = err e refl

-- two facts of one answer
pub both : {V E : Type 0} (r : Result V E) (A B C : V → Type 0) → ((v : V) → A v → B v → C v) → IfOk r A → IfOk r B
    → IfOk r C
both (Ok v) A B C more a b = more v a b
both (Err e) A B C more a b = tt

-- an answer alone, by what is known of an answer and an error
pub if_answered : {V E : Type 0} (r : Result V E) (P R : V → Type 0) (Q : E → Type 0) → MatchResult r P Q
    → ((v : V) → P v → R v) → IfOk r R
if_answered (Ok v) P R Q h more = more v h
if_answered (Err e) P R Q h more = tt

-- both of which more is known
pub told_more : {V E : Type 0} (r : Result V E) (A P R : V → Type 0) (Q S : E → Type 0) → IfOk r A → MatchResult r P Q
    → ((v : V) → A v → P v → R v) → ((e : E) → Q e → S e) → MatchResult r R S
told_more (Ok v) A P R Q S a h ok err = ok v a h
told_more (Err e) A P R Q S a h ok err = err e h

-- an answer, or a fault that blames what is not so
pub judged : {V : Type 0} (r : Result V TableFault) (P : V → Type 0) (So : Type 0) → IfOk r P
    → (r ≡ Err Damaged → So → ⊥) → MatchResult r P (λ fault. Blames fault So)
judged r P So ok damaged = answered r P (λ fault. Blames fault So) ok (λ e is blamed. damaged (is ∙ ap Err blamed))

-- an item of a list: what is so of all items is so of it, and it comes after those before
pub at_item : {X : Type 0} (P : X → Type 0) (xs : List X) (i : ℕ) (x : X) → x ≡ get_or xs i x → i < length xs
    → AllByRecursion P xs → P x
at_item P xs i x is within all = subst P (sym is) (all-get_or P xs i x all within)

pub next_item : {X : Type 0} (xs : List X) (i : ℕ) (x : X) → x ≡ get_or xs i x → i < length xs
    → take (i + 1) xs ≡ take i xs ++ x ∷ []
next_item xs i x is within = take_more xs i x within ∙ ap (λ y. take i xs ++ y ∷ []) (sym is)

pub map_one : {X Y : Type 0} (f : X → Y) (o : Option X) → map f (cons_option o []) ≡ cons_option (option_map f o) []
map_one f None = refl
map_one f (Some x) = refl

-- what the items give that came so far, with what the next one gives
pub next_given : {X Y : Type 0} (f : X → Option Y) (xs : List X) (i : ℕ) (x : X) (ys : List Y) (y : Option Y)
    → x ≡ get_or xs i x → i < length xs → ys ≡ filter_map f (take i xs) → y ≡ f x
    → ys ++ cons_option y [] ≡ filter_map f (take (i + 1) xs)
next_given f xs i x ys y is within given here = ap₂ (λ l o. l ++ cons_option o []) given here
    ∙ sym (ap (filter_map f) (next_item xs i x is within) ∙ filter_map-append f (take i xs) (x ∷ []))
