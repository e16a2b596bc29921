-- What the rows of the second round's result are to the world.
use Rattle.portal_store.proofs.Base.{◌≡◌, inl, inr, ℕ, pos, ◌+◌, ◌<◌, Bool, true, false, ◌||◌, cond, if◌then◌else◌}
use Rattle.portal_store.proofs.Base.{Option, Some, None, option_map, List, [], ◌∷◌, ◌++◌, map, refl, sym, ap, subst}
use Rattle.portal_store.proofs.Base.{◌∙◌, arith, is_none, cases_Bool, nat_tests, map-append, AllByRecursion, IsDistinct}
use Rattle.portal_store.proofs.Base.{find, filter_map, cons_option, IsPermutation, IsPermutation-sym, Null, Int, Row}
use Rattle.portal_store.proofs.Base.{column, bytes, next_rowid, Trees, put_row, Database, State, Has, Published, Second}
use Rattle.portal_store.proofs.Base.{Key, equals, has, put_all, Student, is_left, student_key, placement_in, with_place}
use Rattle.portal_store.proofs.Base.{Good, is_same, is_own, all_unmap, all_map, all_append, all_weaker, is_sym}
use Rattle.portal_store.proofs.Base.{place_row, columns, every, with_rows, row_key, text_or_none, MovesTo, Made}
use Rattle.portal_store.proofs.Base.{GoesOn, first_cell, student_tree, assigned2_tree, filter_all, goes_then}
use Rattle.portal_store.proofs.Base.{all_permuted, at, distinct_if_rise, map_alike_on, map_twice, permutes, put_all_map}
use Rattle.portal_store.proofs.Base.{world_in, student_stored, IsConsistentIn, pair_left, ShowsRoll, TurnsLeft, ◌+ℤ◌}
use Rattle.portal_store.proofs.Base.{append_assoc, append-nil, Less, value_cmp, rowid, find_map, HasPlacements}
use Rattle.portal_store.proofs.Base.{PutsPlacements, pair_new, permuted, map-id}
use Rattle.std.proofs.lemmas.Int.{ints}
use Rattle.sqlite_rules.proofs.TableLemmas.{next_after}
use Rattle.sqlite_value.proofs.OrderLemmas.{value_cmp-Int}
use Rattle.portal_store.proofs.Holding.{second_turned}
use Rattle.portal_store.proofs.Placements.{now_published, shown_known}
use Rattle.portal_store.proofs.Still.{but_one, opened_kept, holds_there, world_after}

-- rows that come to an empty table, one after the other

abbrev told : Row → Key × Key
told r = (row_key r, bytes (column r 2))

abbrev Below : ℕ → Row → Type 0
Below n r = (k : ℕ) × (rowid r ≡ Int (pos k)) × k < n

put_last : (row : Row) (rows : List Row) → AllByRecursion (λ r. value_cmp (rowid r) (rowid row) ≡ Less) rows
    → put_row row rows ≡ rows ++ row ∷ []
put_last row [] h = refl
put_last row (r ∷ rows) h = rw h.0 (ap (λ l. r ∷ l) (put_last row rows h.1))

lower_id : (m n : ℕ) → m < n → value_cmp (Int (pos m)) (Int (pos n)) ≡ Less
lower_id m n h = value_cmp-Int (pos m) (pos n) ∙ grind (arith, ints, nat_tests)

-- each has the number after the last, so that it stands behind all
rows_told : (n : ℕ) (rows cells : List Row) → next_rowid rows ≡ pos n → AllByRecursion (Below n) rows
    → map told (with_rows rows cells) ≡ map told rows ++ map (λ c. told (Null ∷ c)) cells
rows_told n rows [] next below = sym (append-nil (map told rows))
rows_told n rows (c ∷ cells) next below =
    let row : Row = Int (next_rowid rows) ∷ c in
    let rest = map (λ c. told (Null ∷ c)) cells in
    let last : put_row row rows ≡ rows ++ row ∷ [] =
    put_last row rows (all_weaker (Below n) (λ r. value_cmp (rowid r) (rowid row) ≡ Less)
    (λ r b. (λ i. value_cmp (b.1 i) (Int (next i))) ∙ lower_id b.0 n b.2) rows below) in
    let above : next_rowid (put_row row rows) ≡ pos (n + 1) = ap next_rowid last ∙ next_after rows row ∙ ap (λ z. z +ℤ pos 1) next
    ∙ omega (arith, ints) in
    let lower : AllByRecursion (Below (n + 1)) (put_row row rows) =
    subst (AllByRecursion (Below (n + 1))) (sym last)
    (all_append (Below (n + 1)) rows (row ∷ []) (all_weaker (Below n) (Below (n + 1)) (λ r b. (b.0, b.1, omega (arith, b.2))) rows below)
    ((n, ap Int next, omega arith), tt)) in
    rows_told (n + 1) (put_row row rows) cells above lower ∙ ap (λ l. map told l ++ rest) last
    ∙ ap (λ l. l ++ rest) (map-append told rows (row ∷ [])) ∙ append_assoc (map told rows) (told row ∷ []) rest

all_told : (rows : List Row) (pairs : List (Key × Key)) → rows ≡ with_rows [] (map pair_new pairs)
    → map told rows ≡ pairs
all_told rows pairs of = ap (map told) of ∙ rows_told 1 [] (map pair_new pairs) refl tt
    ∙ sym (map_twice (λ c. told (Null ∷ c)) pair_new pairs) ∙ map-id pairs

-- the project that the rows give to a student is that of the pairs
place_told : (rows : List Row) (pairs : List (Key × Key)) (k : Key) → rows ≡ with_rows [] (map pair_new pairs)
    → option_map (λ a. bytes (column a 2)) (find (λ a. equals (row_key a) k) rows) ≡ placement_in pairs k
place_told rows pairs k of = sym (ap (λ ps. placement_in ps k) (sym (all_told rows pairs of))
    ∙ ap (option_map (λ (x : Key × Key). x.1)) (find_map told (λ a. equals (row_key a) k) (λ x. equals x.0 k) (λ a. refl) rows)
    ∙ both (find (λ a. equals (row_key a) k) rows))
  where
    both : (o : Option Row)
        → option_map (λ (x : Key × Key). x.1) (option_map told o) ≡ option_map (λ a. bytes (column a 2)) o
    both None = refl
    both (Some a) = refl

-- what the pairs say of a student: a project of the first round leaves none
abbrev pub place_left : List (Key × Key) → Option Key → Key → Option Key
place_left pairs earlier k = if is_none earlier then placement_in pairs k else None

module _ (pairs : List (Key × Key)) (k : Key) (earlier : Option Key) where
  -- the student's own pair, if there is one, before others
  found : (b : Bool) (t : Option Key) (rest : List (Key × Key)) → placement_in rest k ≡ cond b t None
      → placement_in (cons_option (option_map (λ p. (k, p)) t) rest) k ≡ t
  found b None rest h = h ∙ elim b as (λ b. ◌≡◌ {A = Option Key} (cond b None None) None) [ true ↦ refl | false ↦ refl ]
  found b (Some p) rest h = rw (is_own k) refl

  inside : (o : Option Key) → ◌≡◌ {A = Option (Key × Key)} (cond (is_none o) (option_map (λ p. (k, p)) (placement_in pairs k)) None)
      (option_map (λ p. (k, p)) (place_left pairs o k))
  inside None = refl
  inside (Some p) = refl

  -- the pair of another
  skipped : (x : Row) (rest : List (Key × Key)) → equals (first_cell x) k ≡ false
      → placement_in (cons_option (pair_left pairs x) rest) k ≡ placement_in rest k
  skipped x rest other = go (is_none (text_or_none (column x 3))) (placement_in pairs (first_cell x))
    where
      go : (b : Bool) (t : Option Key)
          → placement_in (cons_option (cond b (option_map (λ p. (first_cell x, p)) t) None) rest) k ≡ placement_in rest k
      go true (Some p) = rw other refl
      go b t = refl

  place_at : (shown : List Row)
      → AllByRecursion (λ x. equals (first_cell x) k ≡ true → text_or_none (column x 3) ≡ earlier) shown
      → placement_in (filter_map (pair_left pairs) shown) k ≡ cond (has (map first_cell shown) k) (place_left pairs earlier k) None
  place_at [] h = refl
  place_at (x ∷ shown) h =
      let rest = filter_map (pair_left pairs) shown in
      let there = has (map first_cell shown) k in
      let place = place_left pairs earlier k in
      elim (cases_Bool (equals (first_cell x) k)) [
        | inl same ↦
            let e : first_cell x ≡ k = is_same (first_cell x) k same in
            let own : pair_left pairs x ≡ option_map (λ p. (k, p)) place =
            (λ i. cond (is_none (h.0 same i)) (option_map (λ p. (e i, p)) (placement_in pairs (e i))) None) ∙ inside earlier in
            ap (λ q. placement_in (cons_option q rest) k) own ∙ found there place rest (place_at shown h.1)
            ∙ ap (λ b. cond (b || there) place None) (sym (is_sym k (first_cell x) ∙ same))
        | inr other ↦ skipped x rest other ∙ place_at shown h.1
            ∙ ap (λ b. cond (b || there) place None) (sym (is_sym k (first_cell x) ∙ other))
      ]

-- of rows whose keys differ one has the key
one_with : (r : Row) (rows : List Row) → IsDistinct equals (map row_key rows) → Has rows r
    → AllByRecursion (λ y. equals (row_key y) (row_key r) ≡ true → y ≡ r) rows
unfolding IsDistinct
one_with r [] d h = absurd h
one_with r (x ∷ rows) d (inl same) = (
  λ _. sym same,
  all_weaker (λ y. equals (row_key x) (row_key y) ≡ false) (λ y. equals (row_key y) (row_key r) ≡ true → y ≡ r) apart rows
      (all_unmap (λ l. equals (row_key x) l ≡ false) row_key rows d.0),
)
  where
    apart : (y : Row) → equals (row_key x) (row_key y) ≡ false → equals (row_key y) (row_key r) ≡ true → y ≡ r
    apart y other hit = let e : true ≡ false = sym hit ∙ ap (λ z. equals (row_key y) (row_key z)) same ∙ is_sym (row_key y) (row_key x)
        ∙ other in absurd (cc)
one_with r (x ∷ rows) d (inr there) =
    let other = at (λ y. equals (row_key x) (row_key y) ≡ false) rows r
    (all_unmap (λ l. equals (row_key x) l ≡ false) row_key rows d.0) there in
    (λ hit. let e : true ≡ false = sym hit ∙ other in absurd (cc), one_with r rows d.1 there)

-- who has a project of the first round has none of the second, so that none is given
with_left : (pairs : List (Key × Key)) (s : Student) → (is_left s ≡ false → s.placed ≡ None)
    → ◌≡◌ {A = Student} (record s { placed = place_left pairs s.earlier_placement s.row.key }) (with_place pairs s)
with_left pairs s none = go (is_left s) none
  where
    go : (b : Bool) → (b ≡ false → s.placed ≡ None)
        → ◌≡◌ {A = Student} (record s { placed = cond b (placement_in pairs s.row.key) None })
        (cond b (record s { placed = placement_in pairs s.row.key }) s)
    go true h = refl
    go false h = λ i. record s { placed = sym (h refl) i }

-- each student who is left has the place that the pairs give, and nothing else has changed
record IsPlaced (pairs : List (Key × Key)) (old new : Database) : Type 0 where
  holds : IsConsistentIn Second new
  world : world_in Second new.trees ≡ record
      (world_in Second old.trees) { students = map (with_place pairs) (world_in Second old.trees).students }

module _ (pairs left : List (Key × Key)) (shown : List Row) (old new : Database) (is_left_of : left ≡ filter_map (pair_left pairs) shown)
    (was : IsConsistentIn Second old) (good : Good (world_in Second old.trees)) (shows : ShowsRoll shown old)
    (put : HasPlacements left old new) where
  abbrev roll : List Row
  roll = old.trees student_tree

  abbrev before : Row → Student
  before = student_stored Second old.trees

  -- the tables at the start, with the places
  abbrev after : Trees
  after = but_one assigned2_tree old new

  distinct : IsDistinct equals (map row_key roll)
  unfolding world_in
  distinct = subst (IsDistinct equals) (sym (map_twice student_key before roll))
      (distinct_if_rise student_key (map before roll) good.sound.students_rise)

  only : AllByRecursion (λ r. is_left (before r) ≡ false → (before r).placed ≡ None) roll
  unfolding world_in
  only =
      let all = all_permuted _ (put_all student_key (map before roll) []) (map before roll)
      (IsPermutation-sym _ _ (permutes student_key (map before roll))) good.sound.only_left in
      all_weaker _ _ (λ r h e. (h e).1) roll (all_unmap (λ s. is_left s ≡ false → (s.choice ≡ []) × (s.placed ≡ None)) before roll all)

  -- the rows that are shown tell of each student what the roll does
  earlier_shown : (r : Row) → Has roll r
      → AllByRecursion (λ x. equals (first_cell x) (row_key r) ≡ true → text_or_none (column x 3) ≡ text_or_none (column r 4)) shown
  earlier_shown r there =
      let P = λ (x : Row). equals (first_cell x) (row_key r) ≡ true → text_or_none (column x 3) ≡ text_or_none (column r 4) in
      let show = columns (1 ∷ 2 ∷ 3 ∷ 4 ∷ []) in
      let same : IsPermutation (map show roll) shown =
      subst (λ rows. IsPermutation (map show rows) shown) (filter_all roll) (permuted (1 ∷ []) every show roll shown shows) in
      all_permuted P (map show roll) shown same
      (all_map P show roll (all_weaker _ _ (λ y one hit. ap (λ z. text_or_none (column z 4)) (one hit)) roll
      (one_with r roll distinct there)))

  one : (r : Row) → Has roll r → student_stored Second after r ≡ with_place pairs (before r)
  one r there =
      let k = row_key r in
      let earlier = text_or_none (column r 4) in
      let known = at (λ x. has (map first_cell shown) (row_key x) ≡ true) roll r (shown_known shown old shows) there in
      let place : option_map (λ a. bytes (column a 2)) (find (λ a. equals (row_key a) k) (new.trees 24)) ≡ place_left pairs earlier k =
      place_told (new.trees 24) left k put.rows ∙ ap (λ ps. placement_in ps k) is_left_of
      ∙ place_at pairs k earlier shown (earlier_shown r there) ∙ ap (λ b. cond b (place_left pairs earlier k) None) known in
      (λ i. record (before r) { placed = place i })
      ∙ with_left pairs (before r) (at (λ x. is_left (before x) ≡ false → (before x).placed ≡ None) roll r only there)

  placed_all : IsPlaced pairs old new
  unfolding world_in
  placed_all =
      let same_key : (s : Student) → student_key (with_place pairs s) ≡ student_key s = λ s. ap (λ r. r.key) (place_row pairs s) in
      let turned : put_all student_key (map (student_stored Second after) roll) []
      ≡ map (with_place pairs) (put_all student_key (map before roll) []) =
      ap (λ l. put_all student_key l []) (map_alike_on (student_stored Second after) (λ r. with_place pairs (before r)) roll one
      ∙ map_twice (with_place pairs) before roll)
      ∙ put_all_map student_key student_key (with_place pairs) same_key (map before roll) [] in
      record {
        holds = holds_there assigned2_tree old new refl was put.tables put.schema_is put.sound put.apart
            (opened_kept old.trees after refl refl was.second)
            (record { choices = was.whole.1.choices; rankings = was.whole.1.rankings; ranked = was.whole.1.ranked });
        world = world_after Second assigned2_tree old new put.tables ∙ ap (λ l. record (world_in Second old.trees) { students = l }) turned;
      }

-- the places, and then the phase
left_turned : (left : List (Key × Key)) (old mid new : Database) → PutsPlacements left old mid → MovesTo Second 3 mid new
    → TurnsLeft left old new
left_turned left old mid new puts moves pairs shown of shows was good better =
    let placed = placed_all pairs left shown old mid of was good shows (puts was.current was.apart.1.1.1.1.1.1.1.1.1.1.0) in
    let done = second_turned Published mid new refl placed.holds moves in
    record { holds = done.holds; world = done.world ∙ now_published placed.world }

pub left_made : (left : List (Key × Key)) (old mid new : State) → GoesOn (PutsPlacements left) old mid
    → Made (MovesTo Second 3) mid new → GoesOn (TurnsLeft left) old new
left_made left old mid new puts moves = goes_then _ _ _ old mid new puts moves (left_turned left old.now mid.now new.now)
