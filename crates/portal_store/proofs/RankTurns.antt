-- Putting a lecturer's ranking turns the tables to the world with that ranking.
use Rattle.portal_store.proofs.Base.{◌≡◌, inl, inr, ℕ, pos, true, false, not, ◌||◌, cond, Some, None, List, [], ◌∷◌}
use Rattle.portal_store.proofs.Base.{◌++◌, map, filter, refl, sym, ap, subst, ◌∙◌, cases_Bool, AllByRecursion}
use Rattle.portal_store.proofs.Base.{IsDistinct, IsPermutation, IsPermutation-filter_both, IsPermutation-sym}
use Rattle.portal_store.proofs.Base.{IsPermutation-middle, IsPermutation-map, Int, Row, column, Trees, Database, State}
use Rattle.portal_store.proofs.Base.{First, Key, equals, has, put_all, Rise, Lecturer, lecturer_key, changed, Ranks}
use Rattle.portal_store.proofs.Base.{with_ranking, is_same, is_own, all_weaker, is_sym, map_same, ranking_here}
use Rattle.portal_store.proofs.Base.{ranking_elsewhere, HasFirstSchema, IsCurrentSchema, lecturer_tree, ranking_tree}
use Rattle.portal_store.proofs.Base.{own_trees, version, RowNumbersDiffer, has_text, row_key, Made, GoesOn, put_splits}
use Rattle.portal_store.proofs.Base.{goes_then, of_key, chosen, IsWhole, world_in, lecturer_row, HasOffice, Whole}
use Rattle.portal_store.proofs.Base.{IsConsistentIn, HasPut, PutsList, TurnsThere, all_map_on, put_all_map, put_same}
use Rattle.portal_store.proofs.Base.{distinct_if_rise, map_twice, all_permuted, all_two, IsLecturerRow}
use Rattle.portal_store.proofs.Base.{lecturer_rows_formed, has_text_of, ℤ, Sets, lecturer_cells, sets_apart, all_unmap}
use Rattle.portal_store.proofs.Base.{filter_none, not_true, sifted}
use Rattle.portal_tables.specs.inner.RowChanges as rows
use Rattle.portal_store.proofs.Still.{but_two, two_changed, world_same, whole_same, kept_at, apart_kept, second_kept}
use Rattle.portal_store.proofs.FirstRows.{lecturer_of_cells, has_ranking}
use Rattle.portal_store.proofs.ChoiceTurns.{chosen_is, whole_at}

-- whether the row of a lecturer has the key
pub key_test : (k : Key) (r : Row) → IsLecturerRow r → has_text 1 k r ≡ equals (row_key r) k
key_test k r f = has_text_of 1 k r f.key (ap (λ x. column x 1) f.is) ∙ ap (λ x. equals (row_key x) k) (sym f.is)

-- the one row with the key
record OneRow (k : Key) (table : List Row) : Type 0 where
  pub row : Row
  pub is : filter (has_text 1 k) table ≡ row ∷ []
  pub formed : IsLecturerRow row
  pub key : row_key row ≡ k

none_with : (k : Key) (table : List Row) → AllByRecursion IsLecturerRow table
    → AllByRecursion (λ l. equals k l ≡ false) (map row_key table)
    → filter (has_text 1 k) table ≡ []
none_with k table all d =
    filter_none (has_text 1 k) table (all_two IsLecturerRow (λ r. equals k (row_key r) ≡ false) (λ r. has_text 1 k r ≡ false)
    (λ r f e. key_test k r f ∙ is_sym (row_key r) k ∙ e) table all (all_unmap (λ l. equals k l ≡ false) row_key table d))

one_row : (k : Key) (table : List Row) → AllByRecursion IsLecturerRow table → IsDistinct equals (map row_key table)
    → has (map row_key table) k ≡ true
    → OneRow k table
unfolding IsDistinct
one_row k [] all d h = absurd (cc)
one_row k (r ∷ table) all d h = elim (cases_Bool (equals (row_key r) k)) [
  | inl same ↦
      let e : row_key r ≡ k = is_same (row_key r) k same in
      record {
        row = r;
        is = rw (key_test k r all.0 ∙ same) (ap (λ l. r ∷ l)
            (none_with k table all.1 (subst (λ x. AllByRecursion (λ l. equals x l ≡ false) (map row_key table)) e d.0)));
        formed = all.0;
        key = e;
      }
  | inr other ↦
      let rest = one_row k table all.1 d.1 (ap (λ b. b || has (map row_key table) k) (sym (is_sym k (row_key r) ∙ other)) ∙ h) in
      record { row = rest.row; is = rw (key_test k r all.0 ∙ other) rest.is; formed = rest.formed; key = rest.key }
]

-- the rows without the key
others_apart : (k : Key) (table : List Row) → AllByRecursion IsLecturerRow table
    → AllByRecursion (λ r. equals (row_key r) k ≡ false) (filter (λ r. not (has_text 1 k r)) table)
others_apart k table all =
    all_weaker (λ r. IsLecturerRow r × (not (has_text 1 k r) ≡ true)) (λ r. equals (row_key r) k ≡ false)
    (λ r h. sym (key_test k r h.0) ∙ not_true (has_text 1 k r) h.1) _ (sifted IsLecturerRow (λ r. not (has_text 1 k r)) table all)

pub same_key : (k : Key) (list : List Key) (l : Lecturer) → lecturer_key (with_ranking k list l) ≡ lecturer_key l
same_key k list l = elim (equals l.row.key k) as
    (λ b. lecturer_key (cond b (record l { ranking = Some list }) l) ≡ lecturer_key l) [ true ↦ refl | false ↦ refl ]

-- the lists of an owner are whole; an owner with no ranking has no row of one
abbrev WholeIn : List Row → Row → Type 0
WholeIn lists r = IsWhole (of_key (row_key r) lists)

abbrev NoneUnranked : List Row → Row → Type 0
NoneUnranked lists r = has_ranking r ≡ false → of_key (row_key r) lists ≡ []

-- the ranking is put, and then the lecturer's one row says so
module _ (k : Key) (list : List Key) (first mid now : Database) (put : HasPut ranking_tree k list first mid) (n : ℤ) (name code : List ℕ)
    (capacity was : ℤ)
    (one : filter (has_text 1 k) (first.trees lecturer_tree) ≡ (Int n ∷ lecturer_cells k name code capacity was) ∷ [])
    (set : Sets lecturer_tree (has_text 1 k) (Int n ∷ lecturer_cells k name code capacity (pos 1)) mid now)
    (formed : AllByRecursion IsLecturerRow (first.trees lecturer_tree)) where
  abbrev before : Row
  before = Int n ∷ lecturer_cells k name code capacity was

  abbrev after : Row
  after = Int n ∷ lecturer_cells k name code capacity (pos 1)

  abbrev rest : List Row
  rest = filter (λ r. not (has_text 1 k r)) (first.trees lecturer_tree)

  lecturers : mid.trees 1 ≡ first.trees 1
  lecturers = kept_at ranking_tree first mid put.tables lecturer_tree refl refl

  old_rows : IsPermutation (first.trees 1) (before ∷ rest)
  old_rows = subst (λ l. IsPermutation (first.trees 1) (l ++ rest)) one
      (IsPermutation-filter_both (has_text 1 k) (λ r. not (has_text 1 k r)) (λ r. refl) (first.trees 1))

  new_rows : IsPermutation (after ∷ rest) (now.trees 1)
  new_rows =
      let split = put_splits after (filter (λ r. not (has_text 1 k r)) (mid.trees 1)) set.free in
      let back : IsPermutation (split.0 ++ after ∷ split.1) (after ∷ (split.0 ++ split.1)) = IsPermutation-middle split.0 after split.1 in
      let from : split.0 ++ split.1 ≡ rest = sym split.2 ∙ ap (filter (λ r. not (has_text 1 k r))) lecturers in
      subst (λ l. IsPermutation (after ∷ l) (now.trees 1)) from
      (subst (IsPermutation (after ∷ (split.0 ++ split.1))) (sym (set.rows ∙ split.3)) (IsPermutation-sym _ _ back))

  other_row : (r : Row) → equals (row_key r) k ≡ false
      → lecturer_of_cells (mid.trees 12) r ≡ with_ranking k list (lecturer_of_cells (first.trees 12) r)
  other_row r other =
      let same : chosen (mid.trees 12) (row_key r) ≡ chosen (first.trees 12) (row_key r) =
      chosen_is ranking_tree k list first mid put (row_key r) ∙ rw other refl in
      (λ i. record { row = lecturer_row r; ranking = cond (has_ranking r) (Some (same i)) None; earlier_ranking = None })
      ∙ sym (ranking_elsewhere k list (lecturer_of_cells (first.trees 12) r) other)

  this_row : lecturer_of_cells (mid.trees 12) after ≡ with_ranking k list (lecturer_of_cells (first.trees 12) before)
  this_row =
      let same : chosen (mid.trees 12) k ≡ list = chosen_is ranking_tree k list first mid put k ∙ rw (is_own k) refl in
      (λ i. record { row = lecturer_row before; ranking = Some (same i); earlier_ranking = None })
      ∙ ranking_here k list (lecturer_of_cells (first.trees 12) before) (is_own k)

  apart_rest : AllByRecursion (λ r. equals (row_key r) k ≡ false) rest
  apart_rest = others_apart k (first.trees 1) formed

  all_rows : map (lecturer_of_cells (mid.trees 12)) (after ∷ rest)
      ≡ map (with_ranking k list) (map (lecturer_of_cells (first.trees 12)) (before ∷ rest))
  all_rows =
      let others : map (lecturer_of_cells (mid.trees 12)) rest ≡ map (with_ranking k list) (map (lecturer_of_cells (first.trees 12)) rest) =
      all_map_on (λ r. equals (row_key r) k ≡ false) _ _ rest apart_rest other_row
      ∙ map_twice (with_ranking k list) (lecturer_of_cells (first.trees 12)) rest in
      λ i. this_row i ∷ others i

  roll_is : Rise (map lecturer_key (put_all lecturer_key (map (lecturer_of_cells (first.trees 12)) (first.trees 1)) []))
      → put_all lecturer_key (map (lecturer_of_cells (mid.trees 12)) (now.trees 1)) []
      ≡ map (with_ranking k list) (put_all lecturer_key (map (lecturer_of_cells (first.trees 12)) (first.trees 1)) [])
  roll_is up =
      let show : Row → Lecturer = lecturer_of_cells (first.trees 12) in
      let turn : Lecturer → Lecturer = with_ranking k list in
      let olds = put_all lecturer_key (map show (first.trees 1)) [] in
      let front : put_all lecturer_key (map show (before ∷ rest)) [] ≡ olds =
      put_same lecturer_key (map show (first.trees 1)) (map show (before ∷ rest)) (IsPermutation-map show _ _ old_rows) up in
      let turned : put_all lecturer_key (map (lecturer_of_cells (mid.trees 12)) (after ∷ rest)) [] ≡ map turn olds =
      ap (λ l. put_all lecturer_key l []) all_rows
      ∙ put_all_map lecturer_key lecturer_key turn (same_key k list) (map show (before ∷ rest)) [] ∙ ap (map turn) front in
      let still : Rise (map lecturer_key (put_all lecturer_key (map (lecturer_of_cells (mid.trees 12)) (after ∷ rest)) [])) =
      subst Rise (sym (ap (map lecturer_key) turned ∙ map_same lecturer_key turn (same_key k list) olds)) up in
      put_same lecturer_key (map (lecturer_of_cells (mid.trees 12)) (after ∷ rest)) (map (lecturer_of_cells (mid.trees 12)) (now.trees 1))
      (IsPermutation-map (lecturer_of_cells (mid.trees 12)) _ _ new_rows) still
      ∙ turned

  -- the tables at the start, with the new rankings and lecturers
  abbrev there : Trees
  there = but_two ranking_tree lecturer_tree first mid now

  same : AllByRecursion (λ t. now.trees t ≡ there t) own_trees
  same = two_changed ranking_tree lecturer_tree first mid now put.tables set.others

  rank_world : Rise (map lecturer_key (world_in First first.trees).lecturers)
      → world_in First now.trees ≡ changed (world_in First first.trees) (Ranks k list)
  unfolding world_in
  rank_world up = world_same First there now.trees same ∙ ap (λ l. record (world_in First first.trees) { lecturers = l }) (roll_is up)

  rank_whole : Whole First first.trees → Whole First now.trees
  rank_whole was =
      let all_old : AllByRecursion (WholeIn (first.trees 12)) (before ∷ rest) =
      all_permuted _ (first.trees 1) (before ∷ rest) old_rows was.rankings in
      let ranked_old : AllByRecursion (NoneUnranked (first.trees 12)) (before ∷ rest) =
      all_permuted _ (first.trees 1) (before ∷ rest) old_rows was.ranked in
      let whole = λ (r : Row) (h : WholeIn (first.trees 12) r). whole_at ranking_tree k list first mid put (row_key r) h in
      let all_new : AllByRecursion (WholeIn (mid.trees 12)) (after ∷ rest) =
      (whole before all_old.0, all_weaker _ _ whole rest all_old.1) in
      let ranked_new : AllByRecursion (NoneUnranked (mid.trees 12)) (after ∷ rest) = (
        λ e. absurd (cc),
        all_two (λ r. equals (row_key r) k ≡ false) _ _
            (λ r other h e. put.others (row_key r) other ∙ h e) rest apart_rest ranked_old.1,
      ) in
      whole_same First there now.trees same (record {
        choices = was.choices;
        rankings = all_permuted _ (after ∷ rest) (now.trees 1) new_rows all_new;
        ranked = all_permuted _ (after ∷ rest) (now.trees 1) new_rows ranked_new;
      })

  rank_holds : IsConsistentIn First first → IsConsistentIn First now
  rank_holds was = record {
    current = subst IsCurrentSchema (sym (set.schema_is ∙ put.schema_is)) was.current;
    own = subst HasFirstSchema (sym (set.schema_is ∙ put.schema_is)) was.own;
    sound = set.sound;
    apart = apart_kept lecturer_tree mid now set.others
        (sets_apart lecturer_tree (has_text 1 k) after n mid now refl set (subst RowNumbersDiffer (sym lecturers) was.apart.1.0))
        (apart_kept ranking_tree first mid put.tables put.apart was.apart);
    office = subst (HasOffice version) (sym same.0) was.office;
    second = second_kept lecturer_tree mid now refl set.others (second_kept ranking_tree first mid refl put.tables was.second);
    whole = rank_whole was.whole;
  }

-- the keys of the rows are those of the world's lecturers, in some order
pub keys_distinct : (db : Database) → Rise (map lecturer_key (world_in First db.trees).lecturers)
    → IsDistinct equals (map row_key (db.trees lecturer_tree))
unfolding world_in
keys_distinct db up =
    subst (IsDistinct equals) (sym (map_twice lecturer_key (lecturer_of_cells (db.trees ranking_tree)) (db.trees lecturer_tree)))
    (distinct_if_rise lecturer_key (map (lecturer_of_cells (db.trees ranking_tree)) (db.trees lecturer_tree)) up)

pub rank_turns : (k : Key) (list : List Key) (first mid now : Database) → PutsList ranking_tree k list first mid
    → rows.MarksRanked k mid now
    → TurnsThere First k list first now
rank_turns k list first mid now puts ranks there holds up =
    let put = puts holds.current holds.apart.1.1.1.1.1.0 in
    let formed = lecturer_rows_formed first holds.own holds.sound holds.apart.1.0 in
    let same : mid.trees 1 ≡ first.trees 1 = kept_at ranking_tree first mid put.tables lecturer_tree refl refl in
    let one = one_row k (first.trees 1) formed (keys_distinct first up) there in
    let f = one.formed in
    let key : f.key ≡ k = sym (ap row_key f.is) ∙ one.key in
    let row_of = λ (x : Key). Int f.number ∷ lecturer_cells x f.name f.code f.capacity f.ranked in
    let was : filter (has_text 1 k) (first.trees 1) ≡ row_of k ∷ [] = one.is ∙ ap (λ r. r ∷ []) (f.is ∙ ap row_of key) in
    let own = subst IsCurrentSchema (sym put.schema_is) holds.current in
    let apart = subst RowNumbersDiffer (sym same) holds.apart.1.0 in
    let set = ranks own apart f.number f.name f.code f.capacity f.ranked (ap (filter (has_text 1 k)) same ∙ was) in
    record {
      holds = rank_holds k list first mid now put f.number f.name f.code f.capacity f.ranked was set formed holds;
      world = rank_world k list first mid now put f.number f.name f.code f.capacity f.ranked was set formed up;
    }

pub rank_made : (k : Key) (list : List Key) (old mid new : State) → GoesOn (PutsList ranking_tree k list) old mid
    → Made (rows.MarksRanked k) mid new
    → GoesOn (TurnsThere First k list) old new
rank_made k list old mid new p q = goes_then _ _ _ old mid new p q (rank_turns k list old.now mid.now new.now)
