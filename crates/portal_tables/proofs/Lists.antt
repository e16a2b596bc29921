-- Lists of rows.
use Rattle.portal_tables.proofs.Base.{◌≡◌, ◌∷◌, ◌++◌, ◌&&◌, ◌||◌, inl, inr, ℤ, List, [], map, filter, Bool, true, false}
use Rattle.portal_tables.proofs.Base.{not, cond, refl, sym, ap, ap₂, subst, ◌∙◌, AllByRecursion, list_any, flat_map}
use Rattle.portal_tables.proofs.Base.{is_eq, ordering_reverse, match_ordering, Ordering, Less, Equal, Greater, or_parts}
use Rattle.portal_tables.proofs.Base.{Value, Int, Row, value_cmp, put_row, rowid, has_rowid, without_rowid, id_in}
use Rattle.portal_tables.proofs.Base.{is_taken, without_all, Has, all_from, all_has, all-filter, and-false}
use Rattle.portal_tables.proofs.Base.{value_cmp_total, tied_itself, RowNumbersDiffer, has_filtered}
pub use Rattle.sqlite_trees.proofs.ListLemmas.{filter_same as filter_alike}

-- a loop that shows each element which passes
pub looped : {X Y : Type 0} (p : X → Bool) (f : X → Y) (xs : List X)
    → flat_map (λ x. cond (p x) (f x ∷ []) []) xs ≡ map f (filter p xs)
looped p f [] = refl
looped p f (x ∷ xs) =
    elim (p x) as (λ b. cond b (f x ∷ []) [] ++ flat_map (λ x. cond (p x) (f x ∷ []) []) xs
    ≡ map f (cond b (x ∷ filter p xs) (filter p xs)))
    [ true ↦ ap (λ l. f x ∷ l) (looped p f xs) | false ↦ looped p f xs ]

pub not_true : (b : Bool) → not b ≡ true → b ≡ false
not_true true h = absurd (cc)
not_true false h = refl

pub filter_same : {X : Type 0} (p q : X → Bool) (xs : List X) → ((x : X) → Has xs x → p x ≡ q x)
    → filter p xs ≡ filter q xs
filter_same p q xs same = filter_alike p q xs (all_from (λ x. p x ≡ q x) xs same)

pub filter-filter : {X : Type 0} (p q : X → Bool) (xs : List X) → filter p (filter q xs) ≡ filter (λ x. q x && p x) xs
filter-filter p q [] = refl
filter-filter p q (x ∷ xs) =
    let both = filter (λ x. q x && p x) xs in
    elim (q x) as (λ b. filter p (cond b (x ∷ filter q xs) (filter q xs)) ≡ cond (b && p x) (x ∷ both) both)
    [ true ↦ ap (λ l. cond (p x) (x ∷ l) l) (filter-filter p q xs) | false ↦ filter-filter p q xs ]

pub filter_all : {X : Type 0} (xs : List X) → filter (λ x. true) xs ≡ xs
filter_all [] = refl
filter_all (x ∷ xs) = ap (λ l. x ∷ l) (filter_all xs)

-- what passes a test keeps what was known of it
pub sifted : {X : Type 0} (P : X → Type 0) (p : X → Bool) (xs : List X) → AllByRecursion P xs
    → AllByRecursion (λ x. P x × (p x ≡ true)) (filter p xs)
sifted P p xs all = all_from _ (filter p xs) (λ x has. let passed = has_filtered p xs x has in (all_has P xs x all passed.0, passed.1))

nor : (a b : Bool) → (not a && not b) ≡ not (a || b)
nor true b = refl
nor false b = refl

-- the rows without those of some numbers
pub without_is : (ids : List ℤ) (rows : List Row)
    → without_all rows ids ≡ filter (λ r. not (list_any (λ id. has_rowid id r) ids)) rows
without_is [] rows = sym (filter_all rows)
without_is (id ∷ ids) rows = without_is ids (without_rowid id rows)
    ∙ filter-filter (λ r. not (list_any (λ id. has_rowid id r) ids)) (λ r. not (has_rowid id r)) rows
    ∙ filter_same _ _ rows (λ r has. nor (has_rowid id r) (list_any (λ id. has_rowid id r) ids))

is_eq_reverse : (o : Ordering) → is_eq (ordering_reverse o) ≡ is_eq o
is_eq_reverse Equal = refl
is_eq_reverse _ = refl

pub eq_flips : (a b : Value) → is_eq (value_cmp a b) ≡ is_eq (value_cmp b a)
eq_flips a b = ap is_eq (value_cmp_total.antisymm a b) ∙ is_eq_reverse (value_cmp b a)

pub eq_self : (a : Value) → is_eq (value_cmp a a) ≡ true
eq_self a = ap is_eq (tied_itself value_cmp_total a)

id : Row → ℤ
id r = id_in (rowid r)

-- some row that passes has the number of r
abbrev found : (Row → Bool) → List Row → Row → Bool
found p rows r = list_any (λ s. has_rowid (id_in (rowid s)) r) (filter p rows)

found_head : (b : Bool) (p : Row → Bool) (x : Row) (rows : List Row) (r : Row) (n : Bool)
    → has_rowid (id_in (rowid x)) r ≡ n
    → list_any (λ s. has_rowid (id_in (rowid s)) r) (cond b (x ∷ filter p rows) (filter p rows)) ≡ ((b && n) || found p rows r)
found_head true p x rows r n e = ap (λ m. m || found p rows r) e
found_head false p x rows r n e = refl

numbered_as : (s r : Row) → rowid s ≡ Int (id_in (rowid s))
    → has_rowid (id_in (rowid s)) r ≡ is_eq (value_cmp (rowid r) (rowid s))
numbered_as s r is = ap (λ v. is_eq (value_cmp (rowid r) v)) (sym is)

found_not : (p : Row → Bool) (rows : List Row) (r : Row)
    → AllByRecursion (λ s. is_eq (value_cmp (rowid r) (rowid s)) ≡ false) rows → RowNumbersDiffer rows
    → found p rows r ≡ false
found_not p [] r none apart = refl
found_not p (x ∷ rows) r none apart =
    found_head (p x) p x rows r false (numbered_as x r apart.0 ∙ none.0) ∙ ap (λ b. b || found p rows r) (and-false (p x))
    ∙ found_not p rows r none.1 apart.2

pub found_once : (p : Row → Bool) (rows : List Row) (r : Row) → RowNumbersDiffer rows → Has rows r
    → found p rows r ≡ p r
found_once p [] r apart none = absurd none
found_once p (x ∷ rows) r apart (inl same) =
    subst (λ y. list_any (λ s. has_rowid (id_in (rowid s)) y) (filter p (x ∷ rows)) ≡ p y) (sym same)
    (found_head (p x) p x rows x true (numbered_as x x apart.0 ∙ eq_self (rowid x)) ∙ own (p x) (found_not p rows x apart.1 apart.2))
  where
    own : (b : Bool) → found p rows x ≡ false → ((b && true) || found p rows x) ≡ b
    own true h = refl
    own false h = h
found_once p (x ∷ rows) r apart (inr has) =
    found_head (p x) p x rows r false (numbered_as x r apart.0 ∙ eq_flips (rowid r) (rowid x)
    ∙ all_has (λ s. is_eq (value_cmp (rowid x) (rowid s)) ≡ false) rows r apart.1 has)
    ∙ ap (λ b. b || found p rows r) (and-false (p x)) ∙ found_once p rows r apart.2 has

-- the rows stay apart where some go, and where one comes whose number is free
pub apart_filter : (p : Row → Bool) (rows : List Row) → RowNumbersDiffer rows → RowNumbersDiffer (filter p rows)
apart_filter p [] h = tt
apart_filter p (x ∷ rows) h =
    elim (p x) as (λ b. RowNumbersDiffer (cond b (x ∷ filter p rows) (filter p rows))) [
      | true ↦ (
        h.0,
        all-filter _ p rows h.1,
        apart_filter p rows h.2,
      )
      | false ↦ apart_filter p rows h.2
    ]

-- where its number is free, a row is put somewhere between the others
pub put_splits : (new : Row) (rows : List Row) → is_taken rows new ≡ false
    → (front : List Row) × (back : List Row) × (rows ≡ front ++ back) × (put_row new rows ≡ front ++ new ∷ back)
put_splits new [] free = ([], [], refl, refl)
put_splits new (r ∷ rows) free = go (put_splits new rows both.1) (value_cmp (rowid r) (rowid new)) refl
  where
    both : (is_eq (value_cmp (rowid r) (rowid new)) ≡ false) × (is_taken rows new ≡ false)
    both = or_parts (is_eq (value_cmp (rowid r) (rowid new))) (is_taken rows new) free

    Split : List Row → List Row → Type 0
    Split old now = (front : List Row) × (back : List Row) × (old ≡ front ++ back) × (now ≡ front ++ new ∷ back)

    go : Split rows (put_row new rows) → (o : Ordering) → value_cmp (rowid r) (rowid new) ≡ o
        → (front : List Row) × (back : List Row) × (r ∷ rows ≡ front ++ back)
        × (match_ordering o (r ∷ put_row new rows) (new ∷ rows) (new ∷ r ∷ rows) ≡ front ++ new ∷ back)
    go rest Less is = (r ∷ rest.0, rest.1, ap (λ l. r ∷ l) rest.2, ap (λ l. r ∷ l) rest.3)
    go rest Equal is = absurd (let e : is_eq Equal ≡ false = ap is_eq (sym is) ∙ both.0 in cc)
    go rest Greater is = ([], r ∷ rows, refl, refl)

-- tests that agree on all find the same
pub any_alike : {X : Type 0} (p q : X → Bool) (xs : List X) → AllByRecursion (λ x. p x ≡ q x) xs
    → list_any p xs ≡ list_any q xs
any_alike p q [] all = refl
any_alike p q (x ∷ xs) all = ap₂ (λ a b. a || b) all.0 (any_alike p q xs all.1)
