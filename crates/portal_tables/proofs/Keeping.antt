-- Each change keeps what a store knows between two calls: its own tables, and distinct row numbers.
use Rattle.portal_tables.proofs.Base.{◌≡◌, ◌≢◌, ◌∷◌, ◌++◌, ℕ, ℤ, List, [], map, length, Result, Ok, Bool, true, false}
use Rattle.portal_tables.proofs.Base.{not, eqb, refl, sym, ap, ap₂, subst, subst₂, ◌∙◌, AllByRecursion, all_of}
use Rattle.portal_tables.proofs.Base.{flat_map, list_all, is_eq, match_ordering, Ordering, Less, Equal, Greater}
use Rattle.portal_tables.proofs.Base.{and_parts, or_parts, eqb-false, IsPermutation, IsPermutation-refl}
use Rattle.portal_tables.proofs.Base.{IsPermutation-trans, IsPermutation-sym, IsPermutation-middle}
use Rattle.portal_tables.proofs.Base.{IsPermutation-append_right, map-append, Int, Row, value_cmp, next_rowid, is_taken}
use Rattle.portal_tables.proofs.Base.{id_in, are_fresh, put_all, put_row, rowid, Database, Ghosts, state, Error}
use Rattle.portal_tables.proofs.Base.{Transaction, all-put_row, InsertsRows, Drops, Sets, RowNumbersDiffer, with_rows}
use Rattle.portal_tables.proofs.Base.{AreNew, own_trees, IsCurrentSchema, Adds, AddsBy, Ran, GoesOn, Does}
use Rattle.portal_tables.specs.inner.Changes.{Keeps}
use Rattle.portal_tables.proofs.Runs.{does_then, goes_then}
use Rattle.portal_tables.proofs.Lists.{apart_filter, eq_flips, put_splits, not_true}
use Rattle.portal_tables.proofs.Sorted.{all_two}

pub apart_put : (new : Row) (rows : List Row) (n : _) → rowid new ≡ Int n → RowNumbersDiffer rows
    → is_taken rows new ≡ false → RowNumbersDiffer (put_row new rows)
apart_put new [] n is apart free = (is ∙ ap Int (sym (ap id_in is)), tt, tt)
apart_put new (r ∷ rows) n is apart free = go (apart_put new rows n is apart.2 both.1) (value_cmp (rowid r) (rowid new)) refl
  where
    both : (is_eq (value_cmp (rowid r) (rowid new)) ≡ false) × (is_taken rows new ≡ false)
    both = or_parts (is_eq (value_cmp (rowid r) (rowid new))) (is_taken rows new) free

    none : (rows : List Row) → is_taken rows new ≡ false
        → AllByRecursion (λ s. is_eq (value_cmp (rowid new) (rowid s)) ≡ false) rows
    none [] free = tt
    none (s ∷ rows) free = let two = or_parts (is_eq (value_cmp (rowid s) (rowid new))) (is_taken rows new) free in
        (eq_flips (rowid new) (rowid s) ∙ two.0, none rows two.1)

    go : RowNumbersDiffer (put_row new rows) → (o : Ordering) → value_cmp (rowid r) (rowid new) ≡ o
        → RowNumbersDiffer (match_ordering o (r ∷ put_row new rows) (new ∷ rows) (new ∷ r ∷ rows))
    go rest Less e = (apart.0, all-put_row _ new rows both.0 apart.1, rest)
    go rest Equal e = absurd (let e : is_eq Equal ≡ false = ap is_eq (sym e) ∙ both.0 in cc)
    go rest Greater e = (is ∙ ap Int (sym (ap id_in is)), none (r ∷ rows) free, apart)

rows_apart : (table cells : List Row) → AreNew table cells → RowNumbersDiffer table
    → RowNumbersDiffer (with_rows table cells)
rows_apart table [] new apart = apart
rows_apart table (c ∷ cells) new apart =
    rows_apart (put_row (Int (next_rowid table) ∷ c) table) cells new.1 (apart_put _ table (next_rowid table) refl apart new.0)

pub puts_apart : (tree : ℕ) (cells : List Row) (old new : Database) → InsertsRows tree cells old new
    → RowNumbersDiffer (old.trees tree) → RowNumbersDiffer (new.trees tree)
puts_apart tree cells old new h apart = subst RowNumbersDiffer (sym h.rows) (rows_apart (old.trees tree) cells h.free apart)

pub put_permutes : (x : Row) (rows : List Row) → is_taken rows x ≡ false → IsPermutation (x ∷ rows) (put_row x rows)
put_permutes x rows free =
    let split = put_splits x rows free in
    subst₂ IsPermutation (ap (λ l. x ∷ l) (sym split.2)) (sym split.3) (IsPermutation-sym _ _ (IsPermutation-middle split.0 x split.1))

-- rows are put, each with a number that no other row has
pub rows_put : (rows news : List Row) → are_fresh rows news ≡ true
    → AllByRecursion (λ r. rowid r ≡ Int (id_in (rowid r))) news → RowNumbersDiffer rows
    → IsPermutation (news ++ rows) (put_all rows news) × RowNumbersDiffer (put_all rows news)
rows_put rows [] fresh numbers apart = (IsPermutation-refl rows, apart)
rows_put rows (x ∷ news) fresh numbers apart =
    let two = and_parts (not (is_taken rows x)) (are_fresh (put_row x rows) news) fresh in
    let free : is_taken rows x ≡ false = not_true (is_taken rows x) two.0 in
    let rest = rows_put (put_row x rows) news two.1 numbers.1 (apart_put x rows _ numbers.0 apart free) in (
      IsPermutation-trans _ _ _ (IsPermutation-sym _ _ (IsPermutation-middle news x rows))
          (IsPermutation-trans _ _ _ (IsPermutation-append_right news _ _ (put_permutes x rows free)) rest.0),
      rest.1,
    )

-- no table but this one is touched by two changes in turn
pub keeps_then : (tree : ℕ) (a b c : Database) → Keeps tree a b → Keeps tree b c → Keeps tree a c
keeps_then tree a b c p q = all_two (λ t. t ≢ tree → b.trees t ≡ a.trees t) (λ t. t ≢ tree → c.trees t ≡ b.trees t)
    (λ t. t ≢ tree → c.trees t ≡ a.trees t) (λ t early late other. late other ∙ early other) own_trees p q

-- what is so of each tree but one is so of trees among which that is not
pub others_are : (P : ℕ → Type 0) (tree : ℕ) (trees : List ℕ) → list_all (λ t. not (eqb t tree)) trees ≡ true
    → AllByRecursion (λ t. t ≢ tree → P t) trees → AllByRecursion P trees
others_are P tree [] apart all = tt
others_are P tree (t ∷ trees) apart all =
    let two = and_parts (not (eqb t tree)) (list_all (λ s. not (eqb s tree)) trees) apart in
    (all.0 (eqb-false t tree (not_true (eqb t tree) two.0)), others_are P tree trees two.1 all.1)

-- every table is as it was
pub keeps_all : {tree : ℕ} (db : Database) → Keeps tree db db
keeps_all {tree} db = all_of (λ t. t ≢ tree → db.trees t ≡ db.trees t) (λ t _. refl) own_trees

-- no row comes
pub adds_none : (tree : ℕ) (db : Database) → Adds tree [] db db
adds_none tree db own = record { schema_is = refl; free = tt; rows = refl; others = keeps_all db; sound = λ h. h refl }

rows_then : (table cells more : List Row) → with_rows table (cells ++ more) ≡ with_rows (with_rows table cells) more
rows_then table [] more = refl
rows_then table (c ∷ cells) more = rows_then (put_row (Int (next_rowid table) ∷ c) table) cells more

new_then : (table cells more : List Row) → AreNew table cells → AreNew (with_rows table cells) more
    → AreNew table (cells ++ more)
new_then table [] more p q = q
new_then table (c ∷ cells) more p q = (p.0, new_then (put_row (Int (next_rowid table) ∷ c) table) cells more p.1 q)

-- rows come, and then more
pub adds_then : (tree : ℕ) (cells more : List Row) (a b c : Database) → Adds tree cells a b → Adds tree more b c
    → Adds tree (cells ++ more) a c
adds_then tree cells more a b c adds later own =
    let p = adds own in
    let q = later (subst IsCurrentSchema (sym p.schema_is) own) in
    record {
      schema_is = q.schema_is ∙ p.schema_is;
      free = new_then (a.trees tree) cells more p.free (subst (λ t. AreNew t more) p.rows q.free);
      rows = q.rows ∙ ap (λ t. with_rows t more) p.rows ∙ sym (rows_then (a.trees tree) cells more);
      others = keeps_then tree a b c p.others q.others;
      sound = λ h. q.sound (λ no_more. p.sound (λ none. h (ap₂ (λ x y. x ++ y) none no_more)));
    }

-- rows come, and then a run of them by one text
pub rows_run : {S R A B : Type 0} (g : Ghosts S) (tree : ℕ) (values cells : R → Row) (text : List ℕ) (count : ℕ)
    → AddsBy g text count tree values cells → (rows run : List R) → length run ≡ count
    → (a : A) (r : Result B Error) (old mid new : Transaction S) → Does g (GoesOn (Adds tree (map cells rows))) (Ok a) old mid
    → Does g (Ran text (flat_map values run)) r mid new
    → Does g (GoesOn (Adds tree (map cells (rows ++ run)))) r old new
rows_run g tree values cells text count adds rows run are a r old mid new before after =
    does_then g _ _ _ a r old mid new before after
    (λ was ran. goes_then (Adds tree (map cells rows)) (Adds tree (map cells run)) (Adds tree (map cells (rows ++ run))) _ _ _ was
    (adds run are mid.conn.now new.conn.now ran)
    (λ p q. subst (λ l. Adds tree l (state g old.conn.now).now (state g new.conn.now).now) (sym (map-append cells rows run))
    (adds_then tree (map cells rows) (map cells run) _ (state g mid.conn.now).now _ p q)))

pub drops_apart : (tree : ℕ) (p : Row → Bool) (old new : Database) → Drops tree p old new
    → RowNumbersDiffer (old.trees tree) → RowNumbersDiffer (new.trees tree)
drops_apart tree p old new h apart = subst RowNumbersDiffer (sym h.rows) (apart_filter _ _ apart)

pub sets_apart : (tree : ℕ) (p : Row → Bool) (row : Row) (n : ℤ) (old new : Database) → rowid row ≡ Int n
    → Sets tree p row old new → RowNumbersDiffer (old.trees tree) → RowNumbersDiffer (new.trees tree)
sets_apart tree p row n old new is h apart = subst RowNumbersDiffer (sym h.rows) (apart_put row _ n is (apart_filter _ _ apart) h.free)

-- one row is apart, and none is
pub apart_one : (rows : List Row) (r : Row) (n : ℤ) → rowid r ≡ Int n → rows ≡ r ∷ [] → RowNumbersDiffer rows
apart_one rows r n is one = subst RowNumbersDiffer (sym one) (is ∙ ap Int (sym (ap id_in is)), tt, tt)

pub apart_none : (rows : List Row) → rows ≡ [] → RowNumbersDiffer rows
apart_none rows none = subst RowNumbersDiffer (sym none) tt
