-- What `open` makes of what was read.
use Rattle.portal_tables.specs.Reads.{NoFault}
use Rattle.portal_store.proofs.Base.{List, [], ◌∷◌, pos, ◌≡◌, ◌≢◌, ◌⊎◌, inl, inr, ℕ, Bool, true, false, not, IsTrue, Ok}
use Rattle.portal_store.proofs.Base.{Err, Result, map, length, filter, slice_index_or, refl, sym, ap, subst, ◌∙◌}
use Rattle.portal_store.proofs.Base.{IsPermutation, Int, Row, column, Trees, Database, HasCleanDisk, IsUnchanged, State}
use Rattle.portal_store.proofs.Base.{Ghosts, Held, state, Round, First, Second, portal_tree, second_tree, choice2_tree}
use Rattle.portal_store.proofs.Base.{ranked2_tree, ranking2_tree, assigned2_tree, first_trees, own_trees, version}
use Rattle.portal_store.proofs.Base.{IsCurrentSchema, RowNumbersDiffer, portal_row, second_row, ListsBy, every, columns}
use Rattle.portal_store.proofs.Base.{HasOffice, number_of_phase, is_empty, AllNumbersDiffer, HasSecond, IsUnopened}
use Rattle.portal_store.proofs.Base.{IsConsistent, IsConsistentIn, later_trees, IsKept, early_trees, apart_one}
use Rattle.portal_store.proofs.Base.{current_own, SaysNot, AdmitsAs, Admits, TableFault, OpenFault, IfErr, IsLive}
use Rattle.portal_store.proofs.Base.{apart_none, HasVersion, IsTrueOfTables, NumbersDiffer, SaysNothing, IsOfRows, Reading}
use Rattle.portal_store.proofs.Base.{Anyhow, IsCommitted, OnlyLooks, OnOk, HasFirstSchema, clean_before, HasRound}
use Rattle.portal_store.proofs.Base.{IsErrAnd, reads_as, all_append, filter_all, nil_from_length, parts_of}
use Rattle.portal_store.proofs.Base.{second_trees}
use Rattle.portal_store.specs.inner.Asked.{Judges}
use Rattle.sqlite.proofs.Callers.{one_permutation}
use Rattle.portal_store.specs.inner.Keeping.{IsReady}
use Rattle.portal_store.proofs.Absent.{as_many}
use Rattle.portal_store.proofs.Keeps.{leaves_shown}
use Rattle.portal_tables.specs.inner.Decoding.{FindsAny}
use Rattle.portal_tables.specs.inner.Queries.{selection, QueryShows}
use Rattle.portal_tables.specs.declared.sql.select.Query.{Query}
use Rattle.portal_tables.specs.declared.fault.TableFault.TheVariants as told
use Rattle.portal_store.specs.declared.store.OpenFault.TheVariants.{NotPortal, OtherVersion, Damaged, Store, Memory}

-- refusals

pub denies_more : (fault : OpenFault) (A B : Type 0) → (B → A) → SaysNot fault A → SaysNot fault B
denies_more Damaged A B back h = λ b. h (back b)
denies_more fault A B back h = h

-- who says nothing is for the store, or for want of memory
pub by_nothing : (P : OpenFault → Type 0) → P Store → P Memory → (fault : OpenFault) → SaysNothing fault → P fault
by_nothing P store memory NotPortal h = absurd h
by_nothing P store memory OtherVersion h = absurd h
by_nothing P store memory Damaged h = absurd (h tt)
by_nothing P store memory Store h = store
by_nothing P store memory Memory h = memory

-- who says nothing denies anything
pub denies_any : (fault : OpenFault) (A : Type 0) → SaysNothing fault → SaysNot fault A
denies_any fault A = denies_more fault (Unit {0}) A (λ _. tt)

-- who denies anything is for the rows, for the store or for want of memory
pub of_rows : (fault : OpenFault) (A : Type 0) → SaysNot fault A → IsOfRows fault
of_rows fault A = denies_more fault A ⊥ (λ no. absurd no)

-- as a fault of the tables' rows
pub denied_of : (fault : OpenFault) (why : TableFault) (A : Type 0) → (why ≡ told.Damaged → fault ≡ Damaged)
    → ((why ≡ told.Damaged → ⊥) → SaysNothing fault) → (why ≡ told.Damaged → A → ⊥) → SaysNot fault A
denied_of fault told.Damaged A damaged nothing h = subst (λ f. SaysNot f A) (sym (damaged refl)) (h refl)
denied_of fault why A damaged nothing h = denies_any fault A (nothing (λ e. absurd (cc)))

pub of_told : (fault : OpenFault) (why : TableFault) → (why ≡ told.Damaged → fault ≡ Damaged)
    → ((why ≡ told.Damaged → ⊥) → SaysNothing fault) → IsOfRows fault
of_told fault why damaged nothing = denied_of fault why ⊥ damaged nothing (λ is no. no)

pub of_judged : (fault : OpenFault) → (fault ≡ Damaged) ⊎ (fault ≡ Memory) → IsOfRows fault
of_judged fault (inl is) = subst IsOfRows (sym is) (λ no. no)
of_judged fault (inr is) = subst IsOfRows (sym is) tt

-- an error that is handed on as a refusal
pub reads_said : {round : Round} {On : State → Type 0} {Right : Database → Type 0} {U D V : Type 0} {IsOf : D → Type 0}
    {T : Database → Result U D
    → Type 0} {Told : Database → Result V OpenFault → Type 0} {e : D} {r : Result V OpenFault} {Said : OpenFault → Type 0} {a b : State}
    → IsErrAnd r Said
    → Reading round On Right IsOf T (Err e) a b → (HasRound round a.now.schema → Right a.now → T a.now (Err e) → (f : OpenFault) → Said f
    → Told a.now (Err f)) → Reading round On Right NoFault Told r a b
reads_said {r = Ok v} is h so = absurd is
reads_said {r = Err f} is h so = reads_as (λ its. absurd its) h (λ no. no) (λ own right told. so own right told f is)

pub blames_more : (fault : OpenFault) (of : ℕ) (A B : Type 0) (db : Trees) → (B → A) → IsTrueOfTables fault of A db
    → IsTrueOfTables fault of B db
blames_more Damaged of A B db back h = (h.0, λ b. h.1 (back b))
blames_more fault of A B db back h = h

-- of tables of this version
pub blamed : (fault : OpenFault) (of : ℕ) (A : Type 0) (db : Trees) → HasVersion of db → SaysNot fault A
    → IsTrueOfTables fault of A db
blamed NotPortal of A db of_version h = absurd h
blamed OtherVersion of A db of_version h = absurd h
blamed Damaged of A db of_version h = (of_version, h)
blamed fault of A db of_version h = h

-- who says nothing of the tables blames them for nothing
pub blames_none : (fault : OpenFault) (of : ℕ) (A : Type 0) (db : Trees) → SaysNothing fault → IsTrueOfTables fault of A db
blames_none fault of A db = by_nothing (λ f. IsTrueOfTables f of A db) tt tt fault

-- the row of the office

listed_one : (keys : List ℕ) (show : Row → Row) (table shown : List Row) (r : Row) → ListsBy keys every show table shown
    → table ≡ r ∷ [] → shown ≡ show r ∷ []
listed_one keys show table shown r h is =
    let f : Row → Row × Row = λ r. (columns keys r, show r) in
    h.is ∙ ap (map (λ (k : Row × Row). k.1))
    (one_permutation (f r) h.keyed (subst (λ rows. IsPermutation (map f (filter every rows)) h.keyed) is h.same))

listed_none : (keys : List ℕ) (show : Row → Row) (table shown : List Row) → ListsBy keys every show table shown
    → shown ≡ [] → table ≡ []
listed_none keys show table shown h none =
    nil_from_length table (ap length (sym (filter_all table)) ∙ sym (as_many keys every show table shown h) ∙ ap length none)

listed_nil : (keys : List ℕ) (show : Row → Row) (table shown : List Row) → ListsBy keys every show table shown
    → table ≡ [] → shown ≡ []
listed_nil keys show table shown h none =
    nil_from_length shown (as_many keys every show table shown h ∙ ap (λ t. length (filter every t)) none)

pub office_version : (of : ℕ) (db : Trees) (shown : List Row) (row : Row) (rest : List Row)
    → ListsBy (0 ∷ []) every (columns (0 ∷ 2 ∷ 3 ∷ 4 ∷ [])) (db portal_tree) shown → shown ≡ row ∷ rest
    → column row 1 ≡ Int (pos of) → HasVersion of db
office_version of db shown row rest h is v = record {
  there = λ none. let e : row ∷ rest ≡ [] = sym is ∙ listed_nil _ _ _ shown h none in absurd (cc);
  version_is = λ r one.
      let e : columns (0 ∷ 2 ∷ 3 ∷ 4 ∷ []) r ∷ [] ≡ row ∷ rest = sym (listed_one _ _ _ shown r h one) ∙ is in
      ap (λ (l : List Row). column (slice_index_or l 0 []) 1) e ∙ v;
}

pub office_refuted : {V : Type 0} (of : ℕ) (A : Type 0) (db : Trees) (shown : List Row) (r : Result V OpenFault)
    → ListsBy (0 ∷ []) every (columns (0 ∷ 2 ∷ 3 ∷ 4 ∷ [])) (db portal_tree) shown → (r ≡ Err NotPortal → shown ≡ [])
    → (r ≡ Err OtherVersion → (row : Row) × (rest : List Row) × (shown ≡ row ∷ rest) × (column row 1 ≢ Int (pos of)))
    → IfErr r (λ fault. fault ≡ Damaged → ⊥) → IfErr r (λ fault. IsTrueOfTables fault of A db)
office_refuted of A db shown (Err NotPortal) h none other judged = listed_none _ _ _ shown h (none refl)
office_refuted of A db shown (Err OtherVersion) h none other judged =
    let it = other refl in
    record {
      there = λ empty. let e : it.0 ∷ it.1 ≡ [] = sym it.2 ∙ listed_nil _ _ _ shown h empty in absurd (cc);
      other = λ row one v.
          let e : columns (0 ∷ 2 ∷ 3 ∷ 4 ∷ []) row ∷ [] ≡ it.0 ∷ it.1 = sym (listed_one _ _ _ shown row h one) ∙ it.2 in
          it.3 (sym (ap (λ (l : List Row). column (slice_index_or l 0 []) 1) e) ∙ v);
    }
office_refuted of A db shown (Err Damaged) h none other judged = absurd (judged refl)
office_refuted of A db shown r h none other judged = tt

-- a table of which a query shows whether there is a row

pub found_none : (q : Query) (db : Trees) (found : Bool) → (selection q).passes ≡ every
    → FindsAny (QueryShows q db) found
    → found ≡ false → db (selection q).tree ≡ []
found_none q db found all h none =
    let s = selection q in
    listed_none s.by (columns s.shown) (db s.tree) h.rows (subst (λ p. ListsBy s.by p (columns s.shown) (db s.tree) h.rows) all h.shown)
    (empty_if h.rows (sym h.told ∙ none))
  where
    empty_if : (rows : List Row) → not (is_empty rows) ≡ false → rows ≡ []
    empty_if [] e = refl
    empty_if (r ∷ rs) e = absurd (cc)

pub found_some : (q : Query) (db : Trees) (found : Bool) → (selection q).passes ≡ every
    → FindsAny (QueryShows q db) found
    → found ≡ true → db (selection q).tree ≡ [] → ⊥
found_some q db found all h some none =
    let s = selection q in
    let rows : h.rows ≡ [] = listed_nil s.by (columns s.shown) (db s.tree) h.rows
    (subst (λ p. ListsBy s.by p (columns s.shown) (db s.tree) h.rows) all h.shown) none in
    let e : not (is_empty {X = Row} []) ≡ true = ap (λ (l : List Row). not (is_empty l)) (sym rows) ∙ sym h.told ∙ some in
    absurd (cc)

-- row numbers differ in the tables of one round, and of both
pub first_apart : (of : ℕ) (db : Trees) → HasOffice of (db portal_tree) → AllNumbersDiffer early_trees db
    → AllNumbersDiffer first_trees db
first_apart of db office many = (
  apart_one (db portal_tree) (portal_row (pos of) (pos (number_of_phase office.phase)) office.office)
      (pos 1) refl office.is,
  many,
)

pub all_apart : (db : Trees) → AllNumbersDiffer early_trees db → AllNumbersDiffer later_trees db → NumbersDiffer db
all_apart db early later = all_append (λ t. RowNumbersDiffer (db t)) early_trees later_trees early later

pub apart_all : (db : Trees) (of : ℕ) → AdmitsAs of db → IsUnopened db → AllNumbersDiffer own_trees db
apart_all db of admits second =
    let none = second.says in
    all_append (λ t. RowNumbersDiffer (db t)) first_trees second_trees admits.apart (
      apart_one (db second_tree) (second_row (pos 0)) (pos 1) refl second.is,
      (
        apart_none (db choice2_tree) none.0,
        (
          apart_none (db ranked2_tree) none.1.0,
          (apart_none (db ranking2_tree) none.1.1.0, (apart_none (db assigned2_tree) none.1.1.1.0, tt)),
        ),
      ),
    )

-- the same, where it is known of all tables of many rows
second_apart : (round : Round) (db : Trees) → HasSecond round db → RowNumbersDiffer (db second_tree)
second_apart First db h = apart_one (db second_tree) (second_row (pos 0)) (pos 1) refl h.is
second_apart Second db h = apart_one (db second_tree) (second_row (pos (number_of_phase h.phase))) (pos 1) refl h.is

pub apart_both : (db : Trees) (round : Round) → HasOffice version (db portal_tree) → HasSecond round db
    → NumbersDiffer db → AllNumbersDiffer own_trees db
apart_both db round office second many =
    let parts = parts_of (λ t. RowNumbersDiffer (db t)) early_trees later_trees many in
    all_append (λ t. RowNumbersDiffer (db t)) first_trees second_trees (first_apart version db office parts.0)
    (second_apart round db second, parts.1)

-- a store over tables that were admitted
module _
    {S : Type 0}
    (g : Ghosts S)
    (own : Bool)
    (old new : Held S)
    (is_own : IsTrue own → IsCurrentSchema old.schema)
    (settled : IsTrue (state g old).is_open → (state g old).now ≡ (state g old).committed)
    (live : IsLive (state g old))
    (found : IsTrue own → HasCleanDisk (state g new) → IsUnchanged (state g old) (state g new) × Admits (state g old).now.trees) where
  admitted : IsTrue own → HasCleanDisk (state g new) → IsReady (state g new)
  admitted mine clean =
      let f = found mine clean in
      let same = f.0.0 in
      let good = f.1 in
      let before : IsConsistentIn good.stands.0 (state g old).now = record {
        current = is_own mine;
        own = current_own old.schema (is_own mine);
        sound = (live same.was_open).0;
        apart = good.apart;
        office = good.stands.1.office;
        second = good.stands.1.second;
        whole = good.stands.1.whole;
      } in
      record {
        settled = same.committed_is ∙ sym (settled same.was_open) ∙ sym same.now_is;
        holds = subst IsConsistent (sym same.now_is) (good.stands.0, before);
      }

  pub opened_kept : new.in_transaction ≡ false → (IsTrue (state g new).is_open → HasCleanDisk (state g new))
      → ((db : Trees) → IsTrue (state g new).is_open → (state g new).may_leave db → db ≡ (state g new).committed.trees)
      → IsKept g new own
  opened_kept idle shut law = record {
    idle = idle;
    ready = λ mine on. admitted mine (shut on);
    left = λ mine clean db may.
        let ready = admitted mine clean in
        leaves_shown g new law ready.settled ready.holds (found mine clean).0.0.is_open db may;
  }

-- what a read tells of the tables that a look before it found
pub told_before : {V E : Type 0} {IsOf : E → Type 0} {Right : Database → Type 0} {Told : Database → Result V E → Type 0}
    (r : Result V E) (a b c : State)
    (P : Database → Type 0)
    → IsCommitted a → OnlyLooks a b
    → Reading First Anyhow Right IsOf Told r b c → HasCleanDisk c → HasFirstSchema a.now.schema → (IsTrue a.is_open → Right a.now)
    → ((v : V) → Told a.now (Ok v) → P a.now) → OnOk r (P a.now)
told_before {Right = Right} {Told = Told} (Ok v) a b c P settled looks reads clean first right told =
    let stays = looks.stays settled (clean_before b c _ reads.crash clean) (reads.same clean tt).0.was_open in
    told v (subst (λ d. Told d (Ok v)) stays.1
    (reads.told (subst (λ (d : Database). HasFirstSchema d.schema) (sym stays.1) first)
    (subst Right (sym stays.1) (right stays.0)) clean))
told_before (Err e) a b c P settled looks reads clean first right told = tt

-- the same, of a fault too, if the connection was open between them
pub judged_before : {V : Type 0} {IsOf : OpenFault → Type 0} {Right : Database → Type 0}
    {Told : Database → Result V OpenFault → Type 0} (r : Result V OpenFault)
    (a b c : State) (P : Database → Type 0)
    → IsCommitted a → OnlyLooks a b → IsTrue b.is_open
    → Reading First Anyhow Right IsOf Told r b c → HasCleanDisk c → HasFirstSchema a.now.schema → (IsTrue a.is_open → Right a.now)
    → ((v : V) → Told a.now (Ok v) → P a.now) → ((f : OpenFault) → Told a.now (Err f) → f ≡ Damaged → P a.now → ⊥) → Judges r (P a.now)
judged_before {Right = Right} {Told = Told} r a b c P settled looks on reads clean first right good bad =
    let stays = looks.stays settled (clean_before b c _ reads.crash clean) on in
    by (Told a.now) r (subst (λ d. Told d r) stays.1
    (reads.told (subst (λ (d : Database). HasFirstSchema d.schema) (sym stays.1) first)
    (subst Right (sym stays.1) (right stays.0)) clean)) good bad
  where
    by : {V : Type 0} {P : Type 0} (Told : Result V OpenFault → Type 0) (r : Result V OpenFault) → Told r
        → ((v : V) → Told (Ok v) → P) → ((f : OpenFault) → Told (Err f) → f ≡ Damaged → P → ⊥) → Judges r P
    by Told (Ok v) told good bad = good v told
    by Told (Err f) told good bad = bad f told

-- a fault that is handed on, and is no damage
pub not_judged : {V : Type 0} {fault : OpenFault} (r : Result V OpenFault) (P : Type 0) → IsErrAnd r (λ f. f ≡ fault)
    → (fault ≡ Damaged → ⊥) → Judges r P
not_judged (Ok v) P is other = absurd is
not_judged (Err f) P is other = λ damaged so. other (sym is ∙ damaged)
