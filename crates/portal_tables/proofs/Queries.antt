-- What a query of one table shows, in the order of a column.
use Rattle.portal_tables.proofs.Base.{◌≡◌, ◌∷◌, inl, inr, Ok, Err, Result, OnErr, OnOk, ℕ, List, [], map, filter, refl}
use Rattle.portal_tables.proofs.Base.{ap, subst, ◌∙◌, IsPermutation, IsSorted, Null, Binary, ascending, Row, column}
use Rattle.portal_tables.proofs.Base.{Term, col, Trees, Query, IsAnswer, output, Output, IsProgramAnswer, answer_alone}
use Rattle.portal_tables.proofs.Base.{State, Shown, ShowsRows, IsUnchanged, FailsToQuery, FailsToShow, IsNotRun, Error}
use Rattle.portal_tables.proofs.Base.{IsUnchangedOrUndone, timed, understood, IsPlainIfAny, ListsBy, columns, key_cmp}
use Rattle.portal_tables.proofs.Base.{map-map}
use Rattle.sqlite_value.specs.declared.keys.Key.{Key}
use Rattle.portal_tables.proofs.Query.{one_table, passes, shown_as}
use Rattle.portal_tables.proofs.Lists.{looped}

abbrev pub by_columns : ℕ → List Term → List Term → List ℕ → Query
by_columns tree tests project keys = record (one_table tree tests project) { order = map (λ at. (col 1 at, ascending Binary)) keys }

pub columns_are : (places : List ℕ) (params r : Row)
    → shown_as (map (λ at. col 1 at) places) params r ≡ columns places r
columns_are [] params r = refl
columns_are (at ∷ places) params r = ap (λ l. column r at ∷ l) (columns_are places params r)

pub listed : (tree : ℕ) (keys : List ℕ) (tests project : List Term) (db : Trees) (params : Row) (rows : List Row)
    → IsProgramAnswer [] (by_columns tree tests project keys) db params rows
    → ListsBy keys (passes tests params) (shown_as project params) (db tree) rows
listed tree keys tests project db params rows h =
    let q = by_columns tree tests project keys in
    let a : IsAnswer q db params rows = answer_alone q db params rows h Null in
    let f = passes tests params in
    let show = λ (r : Row). output q (params ∷ r ∷ []) in
    let staged : a.staged ≡ map (λ r. params ∷ r ∷ []) (filter f (db tree)) = a.grouped ∙ looped f (λ r. params ∷ r ∷ []) (db tree) in
    let kept : a.kept ≡ map show (filter f (db tree)) = a.distinct ∙ ap (map (output q)) staged
    ∙ map-map (output q) (λ r. params ∷ r ∷ []) (filter f (db tree)) in
    let shown : show ≡ (λ r. (columns keys r, shown_as project params r)) =
    λ i r. (
      (ap (λ terms. shown_as terms params r) (map-map (λ (k : Term × Key). k.0) (λ at. (col 1 at, ascending Binary)) keys)
          ∙ columns_are keys params r) i,
      shown_as project params r,
    ) in
    record {
      keyed = a.ordered;
      same = subst (λ k. IsPermutation k a.ordered) (kept ∙ ap (λ s. map s (filter f (db tree))) shown) a.same;
      sorted = subst (λ by. IsSorted (λ (x : Output) (y : Output). key_cmp 0 by x.0 y.0) a.ordered) (map-map _ _ keys) a.sorted;
      is = a.shown;
    }

-- a plain query changes nothing and commits nothing
pub shown_same : (sql : List ℕ) (params : Row) (old new : State) (rows : List Row)
    → IsPlainIfAny (understood old.now.schema sql) → Shown sql params old new rows → IsUnchanged old new
unfolding Shown
shown_same sql params old new rows plain h =
    let none = (subst IsPlainIfAny h.1.is plain).0 in
    (subst (ShowsRows old new sql h.0 (timed params h.0.formats h.1.now) rows) none h.2).3

pub failed_leaves : (sql : List ℕ) (params : Row) (old new : State) (e : Error)
    → IsPlainIfAny (understood old.now.schema sql) → FailsToQuery sql params old new e → IsUnchangedOrUndone old new
unfolding FailsToQuery IsNotRun
failed_leaves sql params old new e plain (inl (inl none)) = inl none.1
failed_leaves sql params old new e plain (inl (inr fails)) = inr fails.3
failed_leaves sql params old new e plain (inr h) =
    let none = (subst IsPlainIfAny h.1.is plain).0 in
    inl (subst (FailsToShow old new sql h.0 (timed params h.0.formats h.1.now) e) none h.2).3

-- what holds anyway holds at an error
pub on_err : {V E : Type 0} (A : Type 0) (r : Result V E) → A → OnErr r A
on_err A (Ok v) h = tt
on_err A (Err e) h = h

pub on_ok : {V E : Type 0} (A : Type 0) (r : Result V E) → A → OnOk r A
on_ok A (Ok v) h = h
on_ok A (Err e) h = tt
