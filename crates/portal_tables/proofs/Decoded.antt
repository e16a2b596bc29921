-- Rows that are decoded one at a time, as they are read.
use Rattle.portal_tables.proofs.Base.{◌≡◌, ◌∷◌, ◌++◌, ◌⊎◌, inl, inr, all_has, has_left, has_right, IsPlainIfAny}
use Rattle.portal_tables.proofs.Base.{Refuses, Leaves, ReadsEach, FindsRow, ℕ, Bool, true, false, refl, List, [], None}
use Rattle.portal_tables.proofs.Base.{Some, Option, sym, ap, subst, ◌∙◌, map-append, timed, Error, EndsIn, begins_shown}
use Rattle.portal_tables.proofs.Base.{Compiled, Database, HasGiven, Advances, Held, state, understood, reads_listing}
use Rattle.portal_tables.proofs.Base.{IsSourceOf, Row, State, Begins, Shown, ShowsRows, IsUnchanged}
use Rattle.portal_tables.proofs.Base.{IsUnchangedOrUndone, HasCleanDisk, FailsToQuery, Survives, survives_weaker}
use Rattle.portal_tables.proofs.Base.{survives_then, given_begin, unchanged, unchanged_then, Ok, Err, Result, IfOk}
use Rattle.portal_tables.proofs.Base.{OnOk, OnErr, option_copied, Bor, AllByRecursion, ShowsAs, FindsAny, IsRefused}
use Rattle.portal_tables.proofs.Base.{IfErr-at_err, IfOk-from_err, IsErr, IsErrAnd, TableFault, Damaged, Vec, Global}
use Rattle.portal_tables.proofs.Base.{is_some}
use Rattle.portal_tables.proofs.Base.{◌≤◌, arith, Store, IsNotRun, FailsToShow, IsOtherError, rolled_back_since, IfErr}
use Rattle.portal_tables.specs.inner.Decoding.{Stops}
use Rattle.sqlite.specs.Effect.{RefusesToRead}
use Rattle.sqlite.specs.Given.{HasBegun, Returns, FailsToAdvance}
use Rattle.sqlite.specs.Tree.{Trees}
use Rattle.sqlite_resolve.specs.declared.error.CompileError.{CompileError}
unfoldable use Rattle.sqlite.specs.State.{CommitsShowing}
use Rattle.sqlite.specs.State.{Fails, HasCause, IsNoStatement}
use Rattle.sqlite_trees.specs.declared.error.StoreError.{StoreError}
use Rattle.sqlite_trees.specs.declared.error.StoreError.TheVariants.{OutOfMemory, Io, Corrupt, Full, Broken, Unstorable}
use Rattle.sqlite_trees.specs.declared.store.Store.{Ghosts}
use Rattle.portal_tables.proofs.InTurn.{clean_before, then_leaves}
use Rattle.portal_tables.proofs.Queries.{failed_leaves, on_err, on_ok}

-- a plain query returns no rows of a write
never_returns : (r : Result Compiled CompileError) → IsPlainIfAny r → Returns r → ⊥
never_returns (Ok c) plain some = absurd (let none = rw plain.0 at some in cc)
never_returns (Err e) plain some = some

begun_plain : {S : Type 0} (g : Ghosts S) (sql : List ℕ) (params : Row) (old new : Held S)
    → IsPlainIfAny (understood old.schema sql) → HasBegun g sql params old new
    → HasGiven g sql params new [] × IsUnchanged (state g old) (state g new)
begun_plain g sql params old new plain (inl h) = h
begun_plain g sql params old new plain (inr h) = absurd (never_returns _ plain h.0)

pub never_commits : (sql : List ℕ) (params : Row) (s : State) (db : Trees) → IsPlainIfAny (understood s.now.schema sql)
    → CommitsShowing sql params s db → ⊥
unfolding CommitsShowing
never_commits sql params s db plain h = never_returns (Ok h.0) (subst IsPlainIfAny h.1.is plain) h.2

-- what a connection shows that is as it was before is what it showed then
pub shown_before : (sql : List ℕ) (params : Row) (a b c : State) (rows : List Row)
    → IsPlainIfAny (understood a.now.schema sql) → IsUnchanged a b → Shown sql params b c rows
    → Shown sql params a c rows
unfolding Shown
shown_before sql params a b c rows plain m h =
    let there = subst (λ (d : Database). IsPlainIfAny (understood d.schema sql)) (sym m.0.now_is) plain in
    let none = (subst IsPlainIfAny h.1.is there).0 in
    let full = timed params h.0.formats h.1.now in
    let it = subst (ShowsRows b c sql h.0 full rows) none h.2 in (
      h.0,
      record {
        is = subst (λ (d : Database). understood d.schema sql ≡ Ok h.0) m.0.now_is h.1.is;
        whole = h.1.whole;
        given = h.1.given;
        now = h.1.now;
      },
      subst (ShowsRows a c sql h.0 full rows) (sym none) (
        it.0,
        subst (λ (d : Database). IsSourceOf (reads_listing d.schema sql) d it.0) m.0.now_is it.1,
        it.2,
        unchanged_then a b c m it.3,
      ),
    )

-- and what fails then would have failed there
failed_before : (sql : List ℕ) (params : Row) (a b c : State) (e : Error)
    → IsPlainIfAny (understood a.now.schema sql) → IsUnchanged a b → a.faults ≤ b.faults → b.step_limit ≡ a.step_limit
    → FailsToQuery sql params b c e → FailsToQuery sql params a c e
unfolding FailsToQuery IsNotRun
failed_before sql params a b c e plain m counts limit (inl (inl none)) =
    inl (inl (subst (λ (d : Database). IsNoStatement (record b { now = d }) sql params e) m.0.now_is none.0, unchanged_then a b c m none.1))
failed_before sql params a b c e plain m counts limit (inl (inr fails)) =
    inl (inr (fails.0, fails.1, cause fails.0 fails.2, rolled_back_since a b c m counts fails.3, fails.4))
  where
    cause : (kind : StoreError) → HasCause b c ⊥ kind → HasCause a c ⊥ kind
    cause OutOfMemory why = tt
    cause Io why = omega (arith, why, counts)
    cause Corrupt why = omega (arith, why, counts)
    cause Full why = omega (arith, why, counts)
    cause Broken why = absurd (let on = rw why at m.0.is_open in cc)
    cause Unstorable why = why
failed_before sql params a b c e plain m counts limit (inr h) =
    let there = subst (λ (d : Database). IsPlainIfAny (understood d.schema sql)) (sym m.0.now_is) plain in
    let none = (subst IsPlainIfAny h.1.is there).0 in
    let full = timed params h.0.formats h.1.now in
    let it = subst (FailsToShow b c sql h.0 full e) none h.2 in
    inr (
      h.0,
      record {
        is = subst (λ (d : Database). understood d.schema sql ≡ Ok h.0) m.0.now_is h.1.is;
        whole = h.1.whole;
        given = h.1.given;
        now = h.1.now;
      },
      subst (FailsToShow a c sql h.0 full e) (sym none) (
        it.0,
        subst (λ (d : Database). IsSourceOf (reads_listing d.schema sql) d it.0) m.0.now_is it.1,
        subst (λ l. RefusesToRead l h.0.command it.0 full e) limit it.2,
        unchanged_then a b c m it.3,
      ),
    )

-- a query that does not begin
module _ {S X : Type 0} (g : Ghosts S) (sql : List ℕ) (params : Row) (old new : Held S) (r : Result X Error) (e : Error) (is : r ≡ Err e)
    (refused : OnErr r (IsRefused g sql params old r new)) where
  it : IsRefused g sql params old r new
  it = IfErr-at_err (λ _. IsRefused g sql params old r new) is refused

  refused_leaves : IsPlainIfAny (understood old.schema sql) → HasCleanDisk (state g new)
      → IsUnchangedOrUndone (state g old) (state g new)
  refused_leaves plain clean = failed_leaves sql params (state g old) (state g new) e plain
      (IfErr-at_err (FailsToQuery sql params (state g old) (state g new)) is (it.err clean))

  refused_survives : Survives (state g old) (state g new) (λ _. IsPlainIfAny (understood old.schema sql) → ⊥)
  refused_survives = survives_weaker (state g old) (state g new) _ _
      (λ _ db made plain. never_commits sql params (state g old) db plain made) it.survives

  pub stops_refused : IsOtherError e → HasCleanDisk (state g new) → Stops sql params (state g old) (state g new)
  stops_refused other clean = (e, other, IfErr-at_err (FailsToQuery sql params (state g old) (state g new)) is (it.err clean))

  pub leaves_refused : {V E : Type 0} (a : Result V E) → IsErr a → Leaves g sql a old new
  leaves_refused a failed = record {
    same = λ plain clean. IfOk-from_err a _ failed;
    err = λ plain clean. on_err _ a (refused_leaves plain clean);
    mode = it.mode;
    survives = refused_survives;
  }

-- A plain query is under way: nothing has changed, and this is known of its rows.
pub record IsUnderWay {S : Type 0} (g : Ghosts S) (sql : List ℕ) (old mid : Held S) (Given : Type 0) : Type 0 where
  pub mode : old.in_transaction ≡ false → mid.in_transaction ≡ false
  pub survives : Survives (state g old) (state g mid) (λ _. IsPlainIfAny (understood old.schema sql) → ⊥)
  pub same : IsPlainIfAny (understood old.schema sql) → HasCleanDisk (state g mid)
      → IsUnchanged (state g old) (state g mid)
  pub given : IsPlainIfAny (understood old.schema sql) → HasCleanDisk (state g mid) → Given

-- it begins
pub begun : {S : Type 0} (g : Ghosts S) (sql : List ℕ) (params : Row) (old mid : Held S) {Given : Type 0}
    → (HasCleanDisk (state g mid) → HasBegun g sql params old mid)
    → (old.in_transaction ≡ false → mid.in_transaction ≡ false)
    → Survives (state g old) (state g mid) (CommitsShowing sql params (state g old)) → (HasGiven g sql params mid [] → Given)
    → IsUnderWay g sql old mid Given
begun g sql params old mid has mode survives known = record {
  mode = mode;
  survives = survives_weaker (state g old) (state g mid) _ _
      (λ _ db made plain. never_commits sql params (state g old) db plain made) survives;
  same = λ plain clean. (begun_plain g sql params old mid plain (has clean)).1;
  given = λ plain clean. known (begun_plain g sql params old mid plain (has clean)).0;
}

module _ {S : Type 0} (g : Ghosts S) (sql : List ℕ) (old mid : Held S) {Given : Type 0} (way : IsUnderWay g sql old mid Given) where
  -- what it leaves, whatever is answered
  pub leaves_way : {V E : Type 0} (r : Result V E) → Leaves g sql r old mid
  leaves_way r = record {
    same = λ plain clean. on_ok _ r (way.same plain clean);
    err = λ plain clean. on_err _ r (inl (way.same plain clean));
    mode = way.mode;
    survives = way.survives;
  }

  module _ (new : Held S) (mode : mid.in_transaction ≡ false → new.in_transaction ≡ false)
      (survives : Survives (state g mid) (state g new) (λ _. ⊥)) where
    before : HasCleanDisk (state g new) → HasCleanDisk (state g mid)
    before = clean_before (state g mid) (state g new) _ survives

    after : Survives (state g old) (state g new) (λ _. IsPlainIfAny (understood old.schema sql) → ⊥)
    after = survives_then (state g old) (state g mid) (state g new) _ _ _ (λ clean db no. no)
        (λ clean db no plain. no) way.survives survives

    -- it goes on to its next row, or to its end
    pub goes_on : {More : Type 0} → (HasCleanDisk (state g new) → IsUnchanged (state g mid) (state g new))
        → (IsPlainIfAny (understood old.schema sql) → HasCleanDisk (state g new) → IsUnchanged (state g old) (state g mid) → Given → More)
        → IsUnderWay g sql old new More
    goes_on same more = record {
      mode = λ idle. mode (way.mode idle);
      survives = after;
      same = λ plain clean. unchanged_then _ _ _ (way.same plain (before clean)) (same clean);
      given = λ plain clean. more plain clean (way.same plain (before clean)) (way.given plain (before clean));
    }

    -- it stopped with this error, after what had been given
    pub stops_after : (params : Row) (given : List Row) → IsPlainIfAny (understood old.schema sql) → HasCleanDisk (state g new)
        → HasGiven g sql params mid given → (e : Error) → IsOtherError e
        → (HasCleanDisk (state g new) → FailsToAdvance g mid new e) → Stops sql params (state g old) (state g new)
    stops_after params given plain clean has e other fails =
        let same = way.same plain (before clean) in (
          e,
          other,
          failed_before sql params (state g old) (state g mid) (state g new) e plain same way.survives.counts way.survives.limit
              (fails clean sql params given has),
        )

    -- it stops with an error
    pub leaves_stopped : {V E : Type 0} (r : Result V E) → IsErr r → (e : Error)
        → (HasCleanDisk (state g new) → Fails (state g mid) (state g new) ⊥ e ⊎ IsUnchanged (state g mid) (state g new))
        → Leaves g sql r old new
    leaves_stopped r failed e kept = record {
      same = λ plain clean. IfOk-from_err r _ failed;
      err = λ plain clean. on_err _ r (then_leaves _ _ _ way.survives.counts (way.same plain (before clean)) (undone (kept clean)));
      mode = λ idle. mode (way.mode idle);
      survives = after;
    }
      where
        undone : Fails (state g mid) (state g new) ⊥ e ⊎ IsUnchanged (state g mid) (state g new)
            → IsUnchangedOrUndone (state g mid) (state g new)
        undone (inl fails) = inr fails.3
        undone (inr same) = inl same

-- what is answered, where the rows are decoded as they are read
module _ {S T : Type 0} (g : Ghosts S) (decode : Row → T) (is_fine : Row → Type 0) (sql : List ℕ) (params : Row) (old new : Held S) where
  same_fault : {V : Type 0} {a b : TableFault} → ◌≡◌ {A = Result V TableFault} (Err a) (Err b) → a ≡ b
  same_fault e = cc

  -- an error that does not blame the rows
  pub broken : (r : Result (Vec T Global) TableFault) (Told : TableFault → Type 0) → IsErrAnd r Told
      → ((fault : TableFault) → Told fault → fault ≡ Damaged → ⊥) → Leaves g sql r old new
      → (IsPlainIfAny (understood old.schema sql) → HasCleanDisk (state g new) → (fault : TableFault) → Told fault → fault ≡ Store
      → Stops sql params (state g old) (state g new))
      → ReadsEach g decode is_fine sql params r old new
  broken (Ok v) Told failed other leaves stops = absurd failed
  broken (Err fault) Told failed other leaves stops = record {
    leaves = leaves;
    rows = λ plain clean. tt;
    undamaged = λ is fine. other fault failed (same_fault is);
    refused = λ plain clean is. absurd (other fault failed (same_fault is));
    stopped = λ plain clean is. stops plain clean fault failed (same_fault is);
  }

  -- a row that is not decoded
  pub refused_row : (r : Result (Vec T Global) TableFault) (fault : TableFault) → IsErrAnd r (λ f. f ≡ fault)
      → (row : Row) → (fault ≡ Damaged → is_fine row → ⊥) → (fault ≡ Store → ⊥)
      → IsUnderWay g sql old new ((before : List Row) × Begins sql params (state g new) (before ++ row ∷ []))
      → ReadsEach g decode is_fine sql params r old new
  refused_row (Ok v) fault failed row blames never way = absurd failed
  refused_row (Err f) fault failed row blames never way = record {
    leaves = leaves_way g sql old new way (Err f);
    rows = λ plain clean. tt;
    undamaged = λ is fine. blames (sym failed ∙ same_fault is) (fine row);
    refused = λ plain clean is.
        let read = way.given plain clean in
        record { before = read.0; row = row; begins = read.1; same = way.same plain clean; refused = blames (sym failed ∙ same_fault is) };
    stopped = λ plain clean is. absurd (never (sym failed ∙ same_fault is));
  }

  -- all rows are decoded
  pub all_read : (v : Vec T Global)
      → IsUnderWay g sql old new (ShowsAs decode (Shown sql params (state g old) (state g new)) v.items)
      → ReadsEach g decode is_fine sql params (Ok v) old new
  all_read v way = record {
    leaves = leaves_way g sql old new way (Ok v);
    rows = way.given;
    undamaged = λ is. absurd (cc);
    refused = λ plain clean is. absurd (cc);
    stopped = λ plain clean is. absurd (cc);
  }

-- whether a row is found, by a step to the first
module _ {S : Type 0} (g : Ghosts S) (sql : List ℕ) (params : Row) (old mid new : Held S) where
  none_found : (found : Option (Bor Row)) → IsPlainIfAny (understood old.schema sql)
      → IsUnchanged (state g old) (state g mid) → HasGiven g sql params mid []
      → Advances g mid new (option_copied found)
      → is_some found ≡ false → Shown sql params (state g old) (state g new) []
  none_found None plain same given on empty =
      shown_before sql params (state g old) (state g mid) (state g new) [] plain same (on sql params [] given)
  none_found (Some row) plain same given on empty = absurd (cc)

  one_found : (found : Option (Bor Row)) → HasGiven g sql params mid [] → Advances g mid new (option_copied found)
      → is_some found ≡ true → (first : Row) × Begins sql params (state g new) (first ∷ [])
  one_found None given on there = absurd (cc)
  one_found (Some row) given on there = (row.now, given_begin g sql params new _ (on sql params [] given))

  pub row_found : (found : Option (Bor Row)) (b : Bool) → b ≡ is_some found
      → IsUnderWay g sql old mid (HasGiven g sql params mid [])
      → (mid.in_transaction ≡ false → new.in_transaction ≡ false) → Survives (state g mid) (state g new) (λ _. ⊥)
      → (HasCleanDisk (state g new) → IsUnchanged (state g mid) (state g new))
      → (HasCleanDisk (state g new) → Advances g mid new (option_copied found)) → FindsRow g sql params (Ok b) old new
  row_found found b told way mode survives same on =
      let before = clean_before (state g mid) (state g new) _ survives in
      let done : IsUnderWay g sql old new (Unit {0}) = goes_on g sql old mid way new mode survives same (λ plain clean was given. tt) in
      record {
        leaves = leaves_way g sql old new done (Ok b);
        none = λ plain clean no. none_found found plain (way.same plain (before clean)) (way.given plain (before clean)) (on clean)
            (sym told ∙ no);
        some = λ plain clean yes. one_found found (way.given plain (before clean)) (on clean) (sym told ∙ yes);
        stopped = λ plain clean. tt;
      }

  pub not_found : (r : Result Bool Error) → IsErr r → Leaves g sql r old new
      → (IsPlainIfAny (understood old.schema sql) → HasCleanDisk (state g new)
      → IfErr r (λ e. IsOtherError e → Stops sql params (state g old) (state g new)))
      → FindsRow g sql params r old new
  not_found r failed leaves stops = record {
    leaves = leaves;
    none = λ plain clean. IfOk-from_err r _ failed;
    some = λ plain clean. IfOk-from_err r _ failed;
    stopped = stops;
  }

module _ {S T : Type 0} (g : Ghosts S) (decode : Row → T) (sql : List ℕ) (params : Row) (old mid new : Held S) (all : List T)
    (so_far : ShowsAs decode (HasGiven g sql params mid) all) where
  -- no row is to come
  pub ended : IsPlainIfAny (understood old.schema sql) → IsUnchanged (state g old) (state g mid)
      → Advances g mid new None → ShowsAs decode (Shown sql params (state g old) (state g new)) all
  ended plain same on = record {
    rows = so_far.rows;
    shown = shown_before sql params (state g old) (state g mid) (state g new) so_far.rows plain same
        (on sql params so_far.rows so_far.shown);
    decoded = so_far.decoded;
  }

  -- one more is decoded
  pub one_more : (row : Row) → Advances g mid new (Some row) → (more : List T) → more ≡ all ++ decode row ∷ []
      → ShowsAs decode (HasGiven g sql params new) more
  one_more row on more is = record {
    rows = so_far.rows ++ row ∷ [];
    shown = on sql params so_far.rows so_far.shown;
    decoded = is ∙ ap (λ ts. ts ++ decode row ∷ []) so_far.decoded ∙ sym (map-append decode so_far.rows (row ∷ []));
  }

-- whether a row is shown, by the first that is read
pub found_any : (IsShown : List Row → Type 0) (sql : List ℕ) (params : Row) (old new : State)
    → IsPlainIfAny (understood old.now.schema sql) → ((rows : List Row) → Shown sql params old new rows → IsShown rows)
    → ((c : Compiled) → understood old.now.schema sql ≡ Ok c → (db : Database) (full : Row) → EndsIn c.command db full)
    → (r : Result Bool Error) → OnOk r (IsUnchanged old new) → IfOk r (λ found. found ≡ false → Shown sql params old new [])
    → IfOk r (λ found. found ≡ true → (first : Row) × Begins sql params new (first ∷ []))
    → IfOk r (FindsAny IsShown)
found_any IsShown sql params old new plain known ends (Ok false) same none some =
    record { rows = []; shown = known [] (none refl); told = refl }
found_any IsShown sql params old new plain known ends (Ok true) same none some =
    let one = some refl in
    let back : (c : Compiled) → understood new.now.schema sql ≡ Ok c
    → understood old.now.schema sql ≡ Ok c = λ c. subst (λ (d : Database). understood d.schema sql ≡ Ok c) same.0.now_is in
    let all = begins_shown sql params new new (one.0 ∷ []) one.1 (unchanged new same.0.is_open)
    (λ c db it source. ends c (back c it.is) db (timed params c.formats it.now)) in
    record {
      rows = one.0 ∷ all.0;
      shown = known (one.0 ∷ all.0) (shown_before sql params old new new (one.0 ∷ all.0) plain same all.1);
      told = refl;
    }
found_any IsShown sql params old new plain known ends (Err e) same none some = tt

-- a row that was refused is one of those that are shown
pub none_refused : (is_fine : Row → Type 0) (IsShown : List Row → Type 0) (sql : List ℕ) (params : Row) (old new : State)
    → IsPlainIfAny (understood old.now.schema sql) → ((rows : List Row) → Shown sql params old new rows → IsShown rows)
    → ((c : Compiled) → understood old.now.schema sql ≡ Ok c → (db : Database) (full : Row) → EndsIn c.command db full)
    → Refuses is_fine sql params old new → ((rows : List Row) → IsShown rows → AllByRecursion is_fine rows) → ⊥
none_refused is_fine IsShown sql params old new plain known ends h fine =
    let first : List Row = h.before ++ h.row ∷ [] in
    let back : (c : Compiled) → understood new.now.schema sql ≡ Ok c
    → understood old.now.schema sql ≡ Ok c = λ c. subst (λ (d : Database). understood d.schema sql ≡ Ok c) h.same.0.now_is in
    let all = begins_shown sql params new new first h.begins (unchanged new h.same.0.is_open)
    (λ c db it source. ends c (back c it.is) db (timed params c.formats it.now)) in
    let there = has_left first all.0 h.row (has_right h.before (h.row ∷ []) h.row (inl refl)) in
    h.refused (all_has is_fine (first ++ all.0) h.row
    (fine (first ++ all.0) (known (first ++ all.0) (shown_before sql params old new new (first ++ all.0) plain h.same all.1))) there)
