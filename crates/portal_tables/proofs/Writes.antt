-- What a statement on one table does to its rows.
use Rattle.portal_tables.proofs.Base.{◌≡◌, ◌⊎◌, ◌∷◌, ◌++◌, ◌≢◌, ◌/◌, inl, inr, ℕ, ℤ, List, [], map, slice_get, Bool}
use Rattle.portal_tables.proofs.Base.{true, false, not, cond, Option, Some, None, Ok, Err, Result, refl, sym, ap, ap₂}
use Rattle.portal_tables.proofs.Base.{subst, ◌∙◌, filter, length, drop, AllByRecursion, and_parts, Null, Int, Row, Term}
use Rattle.portal_tables.proofs.Base.{col, unary, Table, Schema, Values, Insert, Delete, Update, Edit, edit_of, put_all}
use Rattle.portal_tables.proofs.Base.{next_rowid, is_taken, are_fresh, without_all, id_in, taken_by, cast, cast_row}
use Rattle.portal_tables.proofs.Base.{Chosen, Given, Tally, Written, Edited, Trees, put_row, rowid, has_rowid}
use Rattle.portal_tables.proofs.Base.{understood, Database, IsDatabase, value_rows, State, mode_of, Executes, IsPlain}
use Rattle.portal_tables.proofs.Base.{command_of, statement_of, runs_as, one_step, one_permutation, works, Enforced}
use Rattle.portal_tables.proofs.Base.{Column, Reference, Order, schema_of, own_trees, InsertsRows, Drops, Sets}
use Rattle.portal_tables.proofs.Base.{RowNumbersDiffer, with_rows, AreNew, IsPermutation, IsPermutation-map}
use Rattle.portal_tables.proofs.Base.{IsPermutation-trans, IsPermutation-append_left, list_any-IsPermutation}
use Rattle.portal_tables.proofs.Base.{IsProgramAnswer, ids_of, Program, map-map, any_map}
use Rattle.sqlite.specs.Kind.TheVariants as kind
use Rattle.sqlite.specs.Edit.{numbered}
use Rattle.sqlite.specs.Does.{Does}
use Rattle.portal_tables.proofs.Query.{one_table, passes, shown_as}
use Rattle.portal_tables.proofs.Lists.{not_true, filter_same, without_is, found_once, apart_filter}
use Rattle.portal_tables.proofs.Keeping.{rows_put}
use Rattle.portal_tables.proofs.Listed.{permuted}
use Rattle.portal_tables.proofs.Queries.{listed}
use Rattle.portal_tables.proofs.Sorted.{all_permuted}

-- in place of each row that passes stands what is made of it
pub record AltersIn (schema : Schema) (tree : ℕ) (p : Row → Bool) (made : Row → Row) (old new : Database) : Type 0 where
  pub schema_is : new.schema ≡ schema
  pub apart : RowNumbersDiffer (new.trees tree)
  pub rows : IsPermutation (map made (filter p (old.trees tree)) ++ filter (λ r. not (p r)) (old.trees tree)) (new.trees tree)
  pub others : AllByRecursion (λ t. t.tree ≢ tree → new.trees t.tree ≡ old.trees t.tree) schema.tables
  pub sound : IsDatabase new

either : {X : Type 0} (b : Bool) (x : X) → cond b x x ≡ x
either true x = refl
either false x = refl

pub cast_null : cast kind.Integer Null ≡ Null
unfolding unary
cast_null = either _ Null

pub cast_int : (n : ℤ) → cast kind.Integer (Int n) ≡ Int n
unfolding unary
cast_int n = either _ (Int n)

-- a part that gave a value did not stop on the way
pub went : {B E R : Type 0} {b : B} {Stops : E → Type 0} → ((stop : E) × Stops stop × (Ok b ≡ Err stop)) ⊎ R → R
went (inl stopped) = absurd (let e = stopped.2 in cc)
went (inr on) = on

pub same_value : {B E : Type 0} {a b : B} → ◌≡◌ {A = Result B E} (Ok a) (Ok b) → a ≡ b
same_value e = cc

-- a row before it has its number
abbrev pub unnumbered : Row → Row
unnumbered cells = Null ∷ cells

rows_come : (table cells : List Row)
    → put_all table (numbered Chosen table (map unnumbered cells)) ≡ with_rows table cells
rows_come table [] = refl
rows_come table (c ∷ cells) = rows_come (put_row (Int (next_rowid table) ∷ c) table) cells

rows_new : (table cells : List Row) → are_fresh table (numbered Chosen table (map unnumbered cells)) ≡ true
    → AreNew table cells
rows_new table [] h = tt
rows_new table (c ∷ cells) h =
    let row = Int (next_rowid table) ∷ c in
    let two = and_parts (not (is_taken table row))
    (are_fresh (put_row row table) (numbered Chosen (put_row row table) (map unnumbered cells))) h in
    (not_true (is_taken table row) two.0, rows_new (put_row row table) cells two.1)

-- what a query of one table shows, in some order
pub query_answered : (tree : ℕ) (tests project : List Term) (db : Trees) (params : Row) (rows : List Row)
    → IsProgramAnswer [] (one_table tree tests project) db params rows
    → IsPermutation (map (shown_as project params) (filter (passes tests params) (db tree))) rows
query_answered tree tests project db params rows h =
    permuted [] (passes tests params) (shown_as project params) (db tree) rows (listed tree [] tests project db params rows h)

-- the rows that are left where those that pass go by their numbers
pub left_is : (p : Row → Bool) (rest : Row → Row) (rows shown : List Row) → RowNumbersDiffer rows
    → IsPermutation (map (λ r. rowid r ∷ rest r) (filter p rows)) shown
    → without_all rows (ids_of shown) ≡ filter (λ r. not (p r)) rows
left_is p rest rows shown apart same =
    let ids : IsPermutation (map (λ r. id_in (rowid r)) (filter p rows)) (ids_of shown) =
    subst (λ l. IsPermutation l (ids_of shown)) (map-map (λ r. id_in (rowid r)) (λ r. rowid r ∷ rest r) (filter p rows))
    (IsPermutation-map (λ r. id_in (rowid r)) (map (λ r. rowid r ∷ rest r) (filter p rows)) shown same) in
    without_is (ids_of shown) rows ∙ filter_same _ _ rows
    (λ r has. ap not (sym (list_any-IsPermutation (λ id. has_rowid id r) _ _ ids)
    ∙ any_map (λ id. has_rowid id r) (λ s. id_in (rowid s)) (filter p rows) ∙ found_once p rows r apart has))

-- rows that have numbers of their own are given none
rows_stay : (table rows : List Row) → numbered Given table rows ≡ rows
rows_stay table [] = refl
rows_stay table (r ∷ rows) = ap (λ l. r ∷ l) (rows_stay (put_row r table) rows)

-- the number of a row
abbrev pub HasNumber : Row → Type 0
HasNumber r = rowid r ≡ Int (id_in (rowid r))

module _ (schema : Schema) (sql : List ℕ) (at : ℕ) (name : List ℕ) (tree : ℕ) (columns : List Column) (key : Option ℕ) (primary : List ℕ)
    (uniques : List (List ℕ)) (orders : List Order) (checks : List Term)
    (references : List Reference) (terms_of : List Term) where
  abbrev pub table : Table
  table = record (schema_of name tree columns key primary uniques orders checks
      references) { stamps = record { places = []; terms = terms_of; formats = [] } }

  -- where its tables are the portal's own
  module _ (place : slice_get schema.tables at ≡ Some table)
      (own : (P : ℕ → Type 0) → AllByRecursion (λ (t : Table). P t.tree) schema.tables → AllByRecursion P own_trees) where
    pub inserted : (terms : List Term) (width : ℕ) (command : command_of (understood schema sql) ≡ Insert at (Values terms width))
        (plain : IsPlain (understood schema sql))
        → ((rows : List Row) → works schema Enforced 0 tree [] rows ≡ [])
        → (params : Row) (cells : List Row) → ((more : Row)
        → value_rows (params ++ more) width (length terms / width) terms ≡ map unnumbered cells)
        → AllByRecursion (λ c. cast_row table (unnumbered c) ≡ unnumbered c) cells
        → (old new : State) (count : ℕ) → old.now.schema ≡ schema → Executes sql params old new (Ok count)
        → InsertsRows tree cells old.now new.now
    inserted terms width command plain idle params cells given casts old new count has h =
        let db = old.now.trees in
        let w = runs_as sql params old new schema has _ command plain count h in
        let text = statement_of sql (understood schema sql) in
        let changed = subst (λ s. Does old.step_limit (mode_of old) params (record old.now { schema = s }) text None
        (Insert at (Values terms width)) (Ok (w.tally, new.now))) has w.changed in
        let done = went (rw place at changed) in
        let now = ap (λ (p : Tally × Database). p.1) (same_value (went (went done.2).2).2) in
        let source = went done.1 in
        let written = went (went source.2).2 in
        let counted = went written.2 in
        let trees : done.0.trees ≡ written.0 = ap (λ (it : Written). it.trees) (same_value counted.2) ∙ same_value counted.1 in
        let edit : Edit = edit_with (map unnumbered cells) in
        let edit_is : edit_of db table [] Chosen 0 source.0 ≡ edit = ap (edit_of db table [] Chosen 0) (source.1.1 ∙ given _)
        ∙ ap edit_with (cast_all cells casts) in
        let wrote = one_step schema Enforced db written.0 edit (idle edit.news)
        (subst (λ e. Edited schema Enforced db e (Ok written.0)) edit_is written.1) in
        let after : new.now.trees ≡ written.0 = ap (λ (d : Database). d.trees) now ∙ trees in
        record {
          schema_is = ap (λ (d : Database). d.schema) now ∙ sym has;
          free = rows_new (db tree) cells wrote.fresh;
          rows = ap (λ (t : Trees). t tree) after ∙ wrote.rows ∙ rows_come (db tree) cells;
          others = own (λ t. t ≢ tree → new.now.trees t ≡ db t)
              (subst (λ (t : Trees). AllByRecursion (λ s. s.tree ≢ tree → t s.tree ≡ db s.tree) schema.tables) (sym after) wrote.tables);
          sound = λ _. w.sound;
        }
      where
        edit_with : List Row → Edit
        edit_with rows = record { table = table; gone = []; news = numbered Chosen (old.now.trees tree) rows }

        cast_all : (cells : List Row) → AllByRecursion (λ c. cast_row table (unnumbered c) ≡ unnumbered c) cells
            → map (λ s. cast_row table (drop 0 s)) (map unnumbered cells) ≡ map unnumbered cells
        cast_all [] h = refl
        cast_all (c ∷ cells) h = ap₂ (λ r rs. r ∷ rs) h.0 (cast_all cells h.1)

    pub deleted : (tests : List Term) (command : command_of (understood schema sql)
        ≡ Delete at (record { lets = []; body = one_table tree tests (col 1 0 ∷ []) })) (plain : IsPlain (understood schema sql))
        → ((olds : List Row) → works schema Enforced 0 tree olds [] ≡ [])
        → (params : Row) (old new : State) (count : ℕ) → old.now.schema ≡ schema → RowNumbersDiffer (old.now.trees tree)
        → Executes sql params old new (Ok count)
        → Drops tree (passes tests params) old.now new.now
    deleted tests command plain idle params old new count has apart h =
        let db = old.now.trees in
        let q : Program = record { lets = []; body = one_table tree tests (col 1 0 ∷ []) } in
        let w = runs_as sql params old new schema has _ command plain count h in
        let text = statement_of sql (understood schema sql) in
        let changed = subst (λ s. Does old.step_limit (mode_of old) params (record old.now { schema = s }) text None (Delete at q)
        (Ok (w.tally, new.now))) has w.changed in
        let done = went (rw place at changed) in
        let now = ap (λ (p : Tally × Database). p.1) (same_value (went (went done.2).2).2) in
        let queried = went done.1 in
        let written = went queried.2 in
        let trees : done.0.trees ≡ written.0 = ap (λ (it : Written). it.trees) (same_value written.2) in
        let edit : Edit = record { table = table; gone = ids_of queried.0; news = [] } in
        let wrote = one_step schema Enforced db written.0 edit (idle (taken_by db edit)) written.1 in
        let after : new.now.trees ≡ written.0 = ap (λ (d : Database). d.trees) now ∙ trees in
        let shown : IsPermutation (map (λ r. rowid r ∷ []) (filter (passes tests params) (db tree))) queried.0 =
        query_answered tree tests (col 1 0 ∷ []) db params queried.0 (queried.1.answer) in
        record {
          schema_is = ap (λ (d : Database). d.schema) now ∙ sym has;
          rows = ap (λ (t : Trees). t tree) after ∙ wrote.rows ∙ left_is (passes tests params) (λ _. []) (db tree) queried.0 apart shown;
          others = own (λ t. t ≢ tree → new.now.trees t ≡ db t)
              (subst (λ (t : Trees). AllByRecursion (λ s. s.tree ≢ tree → t s.tree ≡ db s.tree) schema.tables) (sym after) wrote.tables);
          sound = w.sound;
        }

    -- an UPDATE of the one row that passes
    pub updated : (tests project : List Term)
        (command : command_of (understood schema sql) ≡ Update at (record { lets = []; body = one_table tree tests (col 1 0 ∷ project) }))
        (plain : IsPlain (understood schema sql))
        → ((r new : Row) → works schema Enforced 0 tree (r ∷ []) (new ∷ []) ≡ [])
        → (params : Row) (r : Row) (old new : State) (count : ℕ) → old.now.schema ≡ schema → RowNumbersDiffer (old.now.trees tree)
        → filter (passes tests params) (old.now.trees tree) ≡ r ∷ [] → Executes sql params old new (Ok count)
        → Sets tree (passes tests params) (cast_row table (shown_as project params r)) old.now new.now
    updated tests project command plain idle params r old new count has apart one h =
        let db = old.now.trees in
        let q : Program = record { lets = []; body = one_table tree tests (col 1 0 ∷ project) } in
        let w = runs_as sql params old new schema has _ command plain count h in
        let text = statement_of sql (understood schema sql) in
        let changed = subst (λ s. Does old.step_limit (mode_of old) params (record old.now { schema = s }) text None (Update at q)
        (Ok (w.tally, new.now))) has w.changed in
        let done = went (rw place at changed) in
        let now = ap (λ (p : Tally × Database). p.1) (same_value (went (went done.2).2).2) in
        let queried = went done.1 in
        let written = went queried.2 in
        let trees : done.0.trees ≡ written.0 = ap (λ (it : Written). it.trees) (same_value written.2) in
        let shown : IsPermutation (map (shown_as (col 1 0 ∷ project) params) (filter (passes tests params) (db tree))) queried.0 =
        query_answered tree tests (col 1 0 ∷ project) db params queried.0 (queried.1.answer) in
        let first = shown_as (col 1 0 ∷ project) params r in
        let rows : queried.0 ≡ first ∷ [] = one_permutation first queried.0
        (subst (λ l. IsPermutation (map (shown_as (col 1 0 ∷ project) params) l) queried.0) one shown) in
        let fresh = cast_row table (shown_as project params r) in
        let edit : Edit = record { table = table; gone = id_in (rowid r) ∷ []; news = fresh ∷ [] } in
        let wrote = one_step schema Enforced db written.0 edit (idle _ fresh)
        (subst (λ l. Edited schema Enforced db (edit_of db table (ids_of l) Given 1 l) (Ok written.0)) rows written.1) in
        let after : new.now.trees ≡ written.0 = ap (λ (d : Database). d.trees) now ∙ trees in
        let left : without_all (db tree) (id_in (rowid r) ∷ []) ≡ filter (λ x. not (passes tests params x)) (db tree) =
        ap (without_all (db tree)) (ap ids_of (sym rows))
        ∙ left_is (passes tests params) (shown_as project params) (db tree) queried.0 apart shown in
        record {
          schema_is = ap (λ (d : Database). d.schema) now ∙ sym has;
          free = not_true _ (and_parts (not (is_taken (filter (λ x. not (passes tests params x)) (db tree)) fresh)) true
              (subst (λ l. are_fresh l (fresh ∷ []) ≡ true) left wrote.fresh)).0;
          rows = ap (λ (t : Trees). t tree) after ∙ wrote.rows ∙ ap (put_row fresh) left;
          others = own (λ t. t ≢ tree → new.now.trees t ≡ db t)
              (subst (λ (t : Trees). AllByRecursion (λ s. s.tree ≢ tree → t s.tree ≡ db s.tree) schema.tables) (sym after) wrote.tables);
          sound = w.sound;
        }

  module _ (place : slice_get schema.tables at ≡ Some table) where
    -- an UPDATE of all rows that pass
    pub altered : (tests project : List Term)
        (command : command_of (understood schema sql) ≡ Update at (record { lets = []; body = one_table tree tests (col 1 0 ∷ project) }))
        (plain : IsPlain (understood schema sql))
        → ((olds news : List Row) → works schema Enforced 0 tree olds news ≡ [])
        → (params : Row) (old new : State) (count : ℕ) → old.now.schema ≡ schema → RowNumbersDiffer (old.now.trees tree)
        → AllByRecursion HasNumber (map (λ r. cast_row table (shown_as project params r))
        (filter (passes tests params) (old.now.trees tree))) → Executes sql params old new (Ok count)
        → AltersIn schema tree (passes tests params) (λ r. cast_row table (shown_as project params r)) old.now new.now
    altered tests project command plain idle params old new count has apart numbers h =
        let db = old.now.trees in
        let p = passes tests params in
        let q : Program = record { lets = []; body = one_table tree tests (col 1 0 ∷ project) } in
        let w = runs_as sql params old new schema has _ command plain count h in
        let text = statement_of sql (understood schema sql) in
        let changed = subst (λ s. Does old.step_limit (mode_of old) params (record old.now { schema = s }) text None (Update at q)
        (Ok (w.tally, new.now))) has w.changed in
        let done = went (rw place at changed) in
        let now = ap (λ (p : Tally × Database). p.1) (same_value (went (went done.2).2).2) in
        let queried = went done.1 in
        let written = went queried.2 in
        let trees : done.0.trees ≡ written.0 = ap (λ (it : Written). it.trees) (same_value written.2) in
        let shown : IsPermutation (map (shown_as (col 1 0 ∷ project) params) (filter p (db tree))) queried.0 =
        query_answered tree tests (col 1 0 ∷ project) db params queried.0 (queried.1.answer) in
        let cut : Row → Row = λ s. cast_row table (drop 1 s) in
        let news = map cut queried.0 in
        let left = filter (λ r. not (p r)) (db tree) in
        let edit : Edit = record { table = table; gone = ids_of queried.0; news = news } in
        let edit_is : edit_of db table (ids_of queried.0) Given 1 queried.0
        ≡ edit = ap (λ rows. record { table = table; gone = ids_of queried.0; news = rows })
        (rows_stay (without_all (db tree) (ids_of queried.0)) news) in
        let wrote = one_step schema Enforced db written.0 edit (idle (taken_by db edit) news)
        (subst (λ e. Edited schema Enforced db e (Ok written.0)) edit_is written.1) in
        let after : new.now.trees ≡ written.0 = ap (λ (d : Database). d.trees) now ∙ trees in
        let left_is_so : without_all (db tree) (ids_of queried.0)
        ≡ left = left_is p (shown_as project params) (db tree) queried.0 apart shown in
        let made : IsPermutation (map (λ r. cast_row table (shown_as project params r)) (filter p (db tree))) news =
        subst (λ l. IsPermutation l news) (map-map cut (shown_as (col 1 0 ∷ project) params) (filter p (db tree)))
        (IsPermutation-map cut _ queried.0 shown) in
        let put = rows_put left news (subst (λ l. are_fresh l news ≡ true) left_is_so wrote.fresh)
        (all_permuted HasNumber _ news made numbers) (apart_filter _ _ apart) in
        let tree_is : put_all left news ≡ new.now.trees tree =
        sym (ap (λ (t : Trees). t tree) after ∙ wrote.rows ∙ ap (λ l. put_all l news) left_is_so) in
        record {
          schema_is = ap (λ (d : Database). d.schema) now;
          apart = subst RowNumbersDiffer tree_is put.1;
          rows = subst (IsPermutation (map (λ r. cast_row table (shown_as project params r)) (filter p (db tree)) ++ left)) tree_is
              (IsPermutation-trans _ _ _ (IsPermutation-append_left left _ _ made) put.0);
          others = subst (λ (t : Trees). AllByRecursion (λ s. s.tree ≢ tree → t s.tree ≡ db s.tree) schema.tables) (sym after) wrote.tables;
          sound = w.sound;
        }
