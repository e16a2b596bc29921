-- A list that is put, whole, in place of another.
use Rattle.portal_tables.proofs.Base.{◌≡◌, ◌+◌, ◌<◌, ◌∷◌, ◌++◌, ◌&&◌, arith, ℕ, pos, List, [], Bool, true, false, not}
use Rattle.portal_tables.proofs.Base.{cond, map, filter, filter_none, all_of, length, refl, sym, ap, ap₂, subst, ◌∙◌}
use Rattle.portal_tables.proofs.Base.{get_or, take, suc, zero-add, IsPermutation, map-append, map-map, append-nil}
use Rattle.portal_tables.proofs.Base.{append_assoc, length_push, length-take-le, State, Made, GoesOn, and-false}
use Rattle.portal_tables.proofs.Base.{filter-append, IsPermutation-refl, IsPermutation-trans, IsPermutation-sym}
use Rattle.portal_tables.proofs.Base.{IsPermutation-cons, IsPermutation-middle, IsPermutation-to_front, is_eq, Value}
use Rattle.portal_tables.proofs.Base.{Int, Words, Row, value_cmp, column, next_rowid, is_taken, put_row, Database}
use Rattle.portal_tables.proofs.Base.{value_cmp_total, Key, equals, Rise, is_sym, IsCurrentSchema, has_text, with_rows}
use Rattle.portal_tables.proofs.Base.{AreNew, Adds, Clears, place_cells, of_key, place_key, by_place, list_in_order}
use Rattle.portal_tables.proofs.Base.{CountUp, IsWhole, numbered, placed, list_cells, PutsList, Equal-is}
use Rattle.std.proofs.Math.Bool.{not-and_self}
use Rattle.portal_tables.proofs.Runs.{made_goes, goes_both}
use Rattle.portal_tables.proofs.InTurn.{next_item}
use Rattle.portal_tables.proofs.Keeping.{puts_apart, drops_apart, keeps_then}
use Rattle.portal_tables.proofs.Lists.{filter_same, filter-filter, put_splits, eq_self}
use Rattle.portal_tables.proofs.Listed.{one, counts_rise}
use Rattle.portal_tables.proofs.Sorted.{in_order, put_all_map, map_twice}
use Rattle.portal_tables.proofs.Shapes.{text_equals}

-- a text is one text
pub same_text : (v : Value) (k s : Key) → is_eq (value_cmp v (Words k)) ≡ true
    → is_eq (value_cmp v (Words s)) ≡ equals k s
same_text v k s e = ap is_eq (value_cmp_total.congr v (Words k) (Words s) ((Equal-is (value_cmp v (Words k))).0 e)) ∙ text_equals k s

-- the rows of another key stay where those of one key go
pub kept_key : (key s : Key) (rows : List Row) → equals key s ≡ false
    → of_key key (filter (λ r. not (has_text 1 s r)) rows) ≡ of_key key rows
kept_key key s rows other = filter-filter (has_text 1 key) (λ r. not (has_text 1 s r)) rows
    ∙ filter_same _ _ rows (λ r has. go r (has_text 1 key r) refl)
  where
    go : (r : Row) (b : Bool) → has_text 1 key r ≡ b → (not (has_text 1 s r) && has_text 1 key r) ≡ has_text 1 key r
    go r true e = rw (e, same_text (column r 1) key s e ∙ other) refl
    go r false e = rw e (and-false (not (has_text 1 s r)))

pub none_left : (s : Key) (rows : List Row) → of_key s (filter (λ r. not (has_text 1 s r)) rows) ≡ []
none_left s rows = filter-filter (has_text 1 s) (λ r. not (has_text 1 s r)) rows
    ∙ filter_none _ rows (all_of _ (λ r. not-and_self (has_text 1 s r)) rows)

-- once the owner's rows are gone nothing is put
put_begun : (tree : ℕ) (owner : Key) (first now : Database) → Clears tree owner first now
    → PutsList tree owner [] first now
put_begun tree owner first now cleared own apart =
    let drops = cleared own apart in
    record {
      schema_is = drops.schema_is;
      sound = drops.sound;
      apart = drops_apart tree _ first now drops apart;
      tables = drops.others;
      others = λ key other. ap (of_key key) drops.rows ∙ kept_key key owner _ other;
      places = subst (λ rows. IsPermutation (map placed rows) []) (sym (ap (of_key owner) drops.rows ∙ none_left owner _))
          (IsPermutation-refl []);
    }

split_key : (key : Key) (front back : List Row) (new : Row) (b : Bool) → has_text 1 key new ≡ b
    → of_key key (front ++ new ∷ back) ≡ of_key key front ++ cond b (new ∷ of_key key back) (of_key key back)
split_key key front back new b e = filter-append (has_text 1 key) front (new ∷ back)
    ∙ ap (λ c. of_key key front ++ cond c (new ∷ of_key key back) (of_key key back)) e

numbered_more : (n : ℕ) (done : List Key) (k : Key)
    → numbered n (done ++ k ∷ []) ≡ numbered n done ++ (length done + n, k) ∷ []
numbered_more n [] k = ap (λ m. (m, k) ∷ []) (sym (zero-add n))
numbered_more n (d ∷ done) k =
    let shifted : length done + (n + 1) ≡ suc (length done) + n = omega arith in
    ap (λ l. (n, d) ∷ l) (numbered_more (n + 1) done k ∙ ap (λ m. numbered (n + 1) done ++ (m, k) ∷ []) shifted)

more_places : (front back : List Row) (new : Row) (done : List Key) (k : Key) → placed new ≡ (length done + 1, k)
    → IsPermutation (map placed (front ++ back)) (numbered 1 done)
    → IsPermutation (map placed (front ++ new ∷ back)) (numbered 1 (done ++ k ∷ []))
more_places front back new done k e was =
    let p : ℕ × Key = (length done + 1, k) in
    let split : map placed (front ++ new ∷ back) ≡ map placed front ++ p ∷ map placed back =
    map-append placed front (new ∷ back) ∙ ap (λ x. map placed front ++ x ∷ map placed back) e in
    let before : IsPermutation (map placed front ++ map placed back) (numbered 1 done) =
    subst (λ l. IsPermutation l (numbered 1 done)) (map-append placed front back) was in
    let ahead : IsPermutation (p ∷ numbered 1 done) (numbered 1 done ++ p ∷ []) =
    IsPermutation-sym _ _ (IsPermutation-to_front (numbered 1 done) p) in
    subst (λ l. IsPermutation l (numbered 1 (done ++ k ∷ []))) (sym split)
    (subst (λ l. IsPermutation (map placed front ++ p ∷ map placed back) l) (sym (numbered_more 1 done k))
    (IsPermutation-trans _ _ _ (IsPermutation-middle (map placed front) p (map placed back))
    (IsPermutation-trans _ _ _ (IsPermutation-cons p _ _ before) ahead)))

-- the owner's rows of a table are the places of a list, and those of the others are as they were
record Listed (owner : Key) (list : List Key) (first now : List Row) : Type 0 where
  pub others : (key : Key) → equals key owner ≡ false → of_key key now ≡ of_key key first
  pub places : IsPermutation (map placed (of_key owner now)) (numbered 1 list)

-- one row more
listed_more : (owner k : Key) (done : List Key) (n : ℕ) (first mid : List Row) → n ≡ length done + 1
    → Listed owner done first mid
    → is_taken mid (Int (next_rowid mid) ∷ place_cells owner (pos n) k) ≡ false
    → Listed owner (done ++ k ∷ []) first (put_row (Int (next_rowid mid) ∷ place_cells owner (pos n) k) mid)
listed_more owner k done n first mid at was free =
    let new : Row = Int (next_rowid mid) ∷ place_cells owner (pos n) k in
    let split = put_splits new mid free in
    let front = split.0 in
    let back = split.1 in
    let mine : of_key owner (put_row new mid) ≡ of_key owner front ++ new ∷ of_key owner back =
    ap (of_key owner) split.3 ∙ split_key owner front back new true (eq_self (Words owner)) in
    let before : of_key owner mid ≡ of_key owner front ++ of_key owner back =
    ap (of_key owner) split.2 ∙ filter-append (has_text 1 owner) front back in
    record {
      others = λ key other.
          ap (of_key key) split.3 ∙ split_key key front back new false (text_equals owner key ∙ is_sym owner key ∙ other)
          ∙ sym (filter-append (has_text 1 key) front back)
          ∙ sym (ap (of_key key) split.2) ∙ was.others key other;
      places = subst (λ l. IsPermutation (map placed l) (numbered 1 (done ++ k ∷ []))) (sym mine)
          (more_places (of_key owner front) (of_key owner back) new done k (ap (λ m. (m, k)) at)
          (subst (λ l. IsPermutation (map placed l) (numbered 1 done)) before was.places));
    }

-- and all the rows of a list
listed_all : (owner : Key) (done ks : List Key) (n : ℕ) (first mid : List Row) → n ≡ length done + 1
    → Listed owner done first mid
    → AreNew mid (map (λ p. place_cells owner (pos p.0) p.1) (numbered n ks))
    → Listed owner (done ++ ks) first (with_rows mid (map (λ p. place_cells owner (pos p.0) p.1) (numbered n ks)))
listed_all owner done [] n first mid at was new = subst (λ l. Listed owner l first mid) (sym (append-nil done)) was
listed_all owner done (k ∷ ks) n first mid at was new =
    let row : Row = Int (next_rowid mid) ∷ place_cells owner (pos n) k in
    let rest = map (λ (p : ℕ × Key). place_cells owner (pos p.0) p.1) (numbered (n + 1) ks) in
    subst (λ l. Listed owner l first (with_rows (put_row row mid) rest)) (append_assoc done (k ∷ []) ks)
    (listed_all owner (done ++ k ∷ []) ks (n + 1) first (put_row row mid) (ap (λ m. m + 1) (at ∙ sym (length_push done k)))
    (listed_more owner k done n first mid at was new.0) new.1)

-- where the owner's rows are gone, the rows of a list put it
put_whole : (tree : ℕ) (owner : Key) (list : List Key) (first mid now : Database) → PutsList tree owner [] first mid
    → Adds tree (list_cells owner list) mid now
    → PutsList tree owner list first now
put_whole tree owner list first mid now puts adds own apart =
    let was = puts own apart in
    let put = adds (subst IsCurrentSchema (sym was.schema_is) own) in
    let listed = listed_all owner [] list 1 (first.trees tree) (mid.trees tree) refl
    (record { others = was.others; places = was.places }) put.free in
    record {
      schema_is = put.schema_is ∙ was.schema_is;
      sound = put.sound (λ _. was.sound);
      apart = puts_apart tree _ mid now put was.apart;
      tables = keeps_then tree first mid now was.tables put.others;
      others = λ key other. ap (of_key key) put.rows ∙ listed.others key other;
      places = subst (λ t. IsPermutation (map placed (of_key owner t)) (numbered 1 list)) (sym put.rows) listed.places;
    }

-- the loop's turn: the row of the place at i is written
pub cells_next : {X : Type 0} (cells_of : X → Row) (rows : List X) (x : X) (owner k : Key) (keys : List Key) (i place : ℕ)
    → place ≡ i → i < length keys → k ≡ get_or keys i k
    → cells_of x ≡ place_cells owner (pos (place + 1)) k
    → map cells_of rows ≡ list_cells owner (take i keys) → map cells_of (rows ++ x ∷ []) ≡ list_cells owner (take (i + 1) keys)
cells_next cells_of rows x owner k keys i place at within equals cell was =
    let cell_of : ℕ × Key → Row = λ p. place_cells owner (pos p.0) p.1 in
    let at_end : place + 1 ≡ length (take i keys) + 1 = omega (arith, at, length-take-le i keys (omega (arith, within))) in
    map-append cells_of rows (x ∷ []) ∙ ap₂ (λ l c. l ++ c ∷ []) was (cell ∙ ap (λ n. place_cells owner (pos n) k) at_end)
    ∙ sym (ap (map cell_of) (numbered_more 1 (take i keys) k)
    ∙ map-append cell_of (numbered 1 (take i keys)) ((length (take i keys) + 1, k) ∷ []))
    ∙ ap (list_cells owner) (sym (next_item keys i k equals within))

abbrev pair_key : ℕ × Key → Key
pair_key p = p.0 ∷ []

names_in : (n : ℕ) (ks : List Key) → map (λ (p : ℕ × Key). p.1) (numbered n ks) ≡ ks
names_in n [] = refl
names_in n (k ∷ ks) = ap (λ l. k ∷ l) (names_in (n + 1) ks)

count_up : (n : ℕ) (ks : List Key) → CountUp n (map (λ (p : ℕ × Key). p.0) (numbered n ks))
count_up n [] = tt
count_up n (k ∷ ks) = (refl, count_up (n + 1) ks)

numbers_rise : (n : ℕ) (ks : List Key) → Rise (map pair_key (numbered n ks))
numbers_rise n ks = subst Rise (map-map one (λ (p : ℕ × Key). p.0) (numbered n ks)) (counts_rise n _ (count_up n ks))

-- rows that are these places, in whatever order, are the list, and it has no gap
module _ (rows : List Row) (list : List Key) (same : IsPermutation (map placed rows) (numbered 1 list)) where
  in_place : map placed (by_place rows) ≡ numbered 1 list
  in_place = sym (put_all_map place_key pair_key placed (λ r. refl) rows [])
      ∙ sym (in_order pair_key (map placed rows) (numbered 1 list) same (numbers_rise 1 list))

  pub list_is : list_in_order rows ≡ list
  list_is = map_twice (λ (p : ℕ × Key). p.1) placed (by_place rows) ∙ ap (map (λ (p : ℕ × Key). p.1)) in_place ∙ names_in 1 list

  pub whole_is : IsWhole rows
  whole_is = subst (CountUp 1) (sym (map_twice (λ (p : ℕ × Key). p.0) placed (by_place rows) ∙ ap (map (λ (p : ℕ × Key). p.0)) in_place))
      (count_up 1 list)

-- the same, of steps of a transaction
pub list_put : (tree : ℕ) (owner : Key) (list : List Key) (old mid new : State) → Made (Clears tree owner) old mid
    → GoesOn (Adds tree (list_cells owner list)) mid new
    → GoesOn (PutsList tree owner list) old new
list_put tree owner list old mid new cleared added =
    goes_both _ _ _ old mid new (made_goes _ old mid cleared) added
    (λ c a. put_whole tree owner list old.now mid.now new.now (put_begun tree owner old.now mid.now c) a)
