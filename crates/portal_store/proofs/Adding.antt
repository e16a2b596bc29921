-- New rows of a roll: what a loop of INSERTs leaves of the tables, and what that is to the world.
use Rattle.portal_store.proofs.Base.{◌≡◌, ℕ, false, ◌||◌, List, [], ◌∷◌, ◌++◌, None, map, refl, sym, ap, ap₂, subst}
use Rattle.portal_store.proofs.Base.{subst₂, ◌∙◌, map-append, AllByRecursion, IsDistinct, IsPermutation}
use Rattle.portal_store.proofs.Base.{IsPermutation-refl, IsPermutation-trans, IsPermutation-sym, IsPermutation-middle}
use Rattle.portal_store.proofs.Base.{IsPermutation-map, Null, Int, Row, next_rowid, put_row, Database, IsDatabase}
use Rattle.portal_store.proofs.Base.{First, Second, LecturerRow, ProjectRow, StudentRow, Key, equals, has, Rise}
use Rattle.portal_store.proofs.Base.{put_all, lecturer_key, project_key, student_key, changed, Lecturers, Projects}
use Rattle.portal_store.proofs.Base.{Students, Good, lecturer_tree, project_tree, student_tree, choice_tree}
use Rattle.portal_store.proofs.Base.{ranking_tree, RowNumbersDiffer, row_key, Keeps, with_rows, put_splits}
use Rattle.portal_store.proofs.Base.{with_rows_added, NewRows, IsConsistentIn, HasChangedIn, IsTransitionIn, of_key}
use Rattle.portal_store.proofs.Base.{IsWhole, list_in_order, world_in, project_row, permutes, permutes_more}
use Rattle.portal_store.proofs.Base.{rise_distinct, all_permuted, distinct_permuted, map_twice, map_alike, all_map_on}
use Rattle.portal_store.proofs.Base.{all_unmap, all_map, all_append, all_weaker, drop, IsPermutation-append_right}
use Rattle.portal_store.proofs.Base.{new_lecturer, new_student, InsertsRows, AreNew, Adds, lecturer_new, project_new}
use Rattle.portal_store.proofs.Base.{student_new, puts_apart, more_put, OnRoll, none_of, place_parents, map-id}
use Rattle.portal_tables.specs.declared.sql.list_table.Lists.TheVariants as which
use Rattle.portal_tables.proofs.Writes.{unnumbered}
use Rattle.portal_store.specs.declared.changing.add_rows.NewRows.TheVariants as come
use Rattle.portal_store.proofs.Still.{holds_after, world_after}
use Rattle.portal_store.proofs.FirstRows.{has_ranking, lecturer_of_cells, student_of}

-- a row without its number
abbrev pub bare : Row → Row
bare r = Null ∷ drop 1 r

-- rows with these cells have come to the table, and nothing else has changed
pub record Added (tree : ℕ) (cells : List Row) (old new : Database) : Type 0 where
  pub schema_is : new.schema ≡ old.schema
  pub rows : IsPermutation (map unnumbered cells ++ map bare (old.trees tree)) (map bare (new.trees tree))
  pub apart : RowNumbersDiffer (old.trees tree) → RowNumbersDiffer (new.trees tree)
  pub others : Keeps tree old new
  pub sound : IsDatabase old → IsDatabase new

rows_permute : (table cells : List Row) → AreNew table cells
    → IsPermutation (map unnumbered cells ++ map bare table) (map bare (with_rows table cells))
rows_permute table [] new = IsPermutation-refl (map bare table)
rows_permute table (c ∷ cells) new =
    let row : Row = Int (next_rowid table) ∷ c in
    let split = put_splits row table new.0 in
    let one : IsPermutation (row ∷ table) (put_row row table) =
    subst₂ IsPermutation (ap (λ l. row ∷ l) (sym split.2)) (sym split.3)
    (IsPermutation-sym _ _ (IsPermutation-middle split.0 row split.1)) in
    let front = map unnumbered cells in
    let moved : IsPermutation (unnumbered c ∷ (front ++ map bare table)) (front ++ unnumbered c ∷ map bare table) =
    IsPermutation-sym _ _ (IsPermutation-middle front (unnumbered c) (map bare table)) in
    let put : IsPermutation (front ++ unnumbered c ∷ map bare table) (front ++ map bare (put_row row table)) =
    IsPermutation-append_right front _ _ (IsPermutation-map bare (row ∷ table) (put_row row table) one) in
    IsPermutation-trans _ _ _ moved (IsPermutation-trans _ _ _ put (rows_permute (put_row row table) cells new.1))

pub added_of : (tree : ℕ) (cells : List Row) (old new : Database) → InsertsRows tree cells old new
    → Added tree cells old new
added_of tree cells old new put = record {
  schema_is = put.schema_is;
  rows = subst (λ t. IsPermutation (map unnumbered cells ++ map bare (old.trees tree)) (map bare t)) (sym put.rows)
      (rows_permute (old.trees tree) cells put.free);
  apart = puts_apart tree cells old new put;
  others = put.others;
  sound = λ h. put.sound (λ _. h);
}

-- what is read of a row does not depend on its number
key_bare : (r : Row) → row_key (bare r) ≡ row_key r
key_bare [] = refl
key_bare (v ∷ r) = refl

ranked_bare : (r : Row) → has_ranking (bare r) ≡ has_ranking r
ranked_bare [] = refl
ranked_bare (v ∷ r) = refl

lecturer_bare : (rankings : List Row) (r : Row) → lecturer_of_cells rankings (bare r) ≡ lecturer_of_cells rankings r
lecturer_bare rankings [] = refl
lecturer_bare rankings (v ∷ r) = refl

project_bare : (r : Row) → project_row (bare r) ≡ project_row r
project_bare [] = refl
project_bare (v ∷ r) = refl

student_bare : (choices : List Row) (r : Row) → student_of choices (bare r) ≡ student_of choices r
student_bare choices [] = refl
student_bare choices (v ∷ r) = refl

-- what the rows stand for, by a reading that does not look at their numbers
decoded : {X : Type 0} (f : Row → X) (tree : ℕ) (cells : List Row) (old new : Database) → ((r : Row) → f (bare r) ≡ f r)
    → Added tree cells old new
    → IsPermutation (map (λ c. f (unnumbered c)) cells ++ map f (old.trees tree)) (map f (new.trees tree))
decoded f tree cells old new blind a =
    let read = λ (rows : List Row). sym (map_twice f bare rows) ∙ map_alike (λ r. f (bare r)) f rows blind in
    subst₂ IsPermutation (map-append f (map unnumbered cells) (map bare (old.trees tree))
    ∙ ap₂ (λ a b. a ++ b) (sym (map_twice f unnumbered cells)) (read (old.trees tree))) (read (new.trees tree))
    (IsPermutation-map f (map unnumbered cells ++ map bare (old.trees tree)) (map bare (new.trees tree)) a.rows)

-- what holds of the rows that were there and of the new ones holds of all
all_added : (P : Row → Type 0) (tree : ℕ) (cells : List Row) (old new : Database) → ((r : Row) → P r → P (bare r))
    → ((r : Row) → P (bare r) → P r) → Added tree cells old new
    → AllByRecursion (λ c. P (unnumbered c)) cells → AllByRecursion P (old.trees tree) → AllByRecursion P (new.trees tree)
all_added P tree cells old new to back a fresh was =
    let first : AllByRecursion P (map unnumbered cells ++ map bare (old.trees tree)) =
    all_append P _ _ (all_map P unnumbered cells fresh)
    (all_map P bare (old.trees tree) (all_weaker P (λ r. P (bare r)) to (old.trees tree) was)) in
    all_weaker (λ r. P (bare r)) P back (new.trees tree) (all_unmap P bare (new.trees tree) (all_permuted P _ _ a.rows first))

-- keys that rise together are new
module _ {X : Type 0} (key : X → Key) where
  behind : (k : Key) (us ys : List X) → AllByRecursion (λ l. equals k l ≡ false) (map key (us ++ ys))
      → has (map key ys) k ≡ false
  behind k [] [] h = refl
  behind k [] (y ∷ ys) h = ap (λ b. b || has (map key ys) k) h.0 ∙ behind k [] ys h.1
  behind k (u ∷ us) ys h = behind k us ys h.1

  fresh_from : (xs ys : List X) → IsDistinct equals (map key (xs ++ ys))
      → AllByRecursion (λ x. has (map key ys) (key x) ≡ false) xs
  unfolding IsDistinct
  fresh_from [] ys d = tt
  fresh_from (x ∷ xs) ys d = (behind (key x) xs ys d.0, fresh_from xs ys d.1)

  pub are_fresh : (news olds : List X) → Rise (map key (put_all key news (put_all key olds [])))
      → AllByRecursion (λ x. has (map key olds) (key x) ≡ false) news
  are_fresh news olds up =
      fresh_from news olds (distinct_permuted key (put_all key news (put_all key olds [])) (news ++ olds)
      (IsPermutation-sym _ _ (IsPermutation-trans _ _ _ (IsPermutation-append_right news _ _ (permutes key olds))
      (permutes_more key news (put_all key olds [])))) (rise_distinct _ up))

-- what holds of the keys of the rows that were there and of the new ones holds of all
keyed_added : (P : Key → Type 0) (tree : ℕ) (cells : List Row) (old new : Database) → Added tree cells old new
    → AllByRecursion (λ c. P (row_key (unnumbered c))) cells → AllByRecursion (λ r. P (row_key r)) (old.trees tree)
    → AllByRecursion (λ r. P (row_key r)) (new.trees tree)
keyed_added P tree cells old new = all_added (λ r. P (row_key r)) tree cells old new (λ r h. subst P (sym (key_bare r)) h)
    (λ r h. subst P (key_bare r) h)

-- the roll has the new rows, by a reading that does not look at their numbers
roll_added : {X Y : Type 0} (key : Y → Key) (cells : X → Row) (show : Row → Y) (rows : List X) (news : List Y) (tree : ℕ)
    (old new : Database)
    → ((r : Row) → show (bare r) ≡ show r) → map (λ x. show (unnumbered (cells x))) rows ≡ news
    → Added tree (map cells rows) old new → Rise (map key (put_all key news (put_all key (map show (old.trees tree)) [])))
    → put_all key (map show (new.trees tree)) [] ≡ put_all key news (put_all key (map show (old.trees tree)) [])
roll_added key cells show rows news tree old new blind are a =
    more_put key news (map show (old.trees tree)) (map show (new.trees tree))
    (subst (λ l. IsPermutation (l ++ map show (old.trees tree)) (map show (new.trees tree)))
    (sym (map_twice (λ c. show (unnumbered c)) cells rows) ∙ are) (decoded show tree (map cells rows) old new blind a))

-- no row of a list is that of an owner who is new
none_yet : {X Y : Type 0} (Q : Row → Type 0) (key : Y → Key) (of : X → Y) (show : Row → Y) (rows : List X) (roll lists : List Row)
    → map key (map show roll) ≡ map row_key roll → AllByRecursion (λ r. OnRoll roll (row_key r) × Q r) lists
    → Rise (map key (put_all key (map of rows) (put_all key (map show roll) [])))
    → AllByRecursion (λ x. of_key (key (of x)) lists ≡ []) rows
none_yet Q key of show rows roll lists keys owned up =
    all_weaker (λ x. has (map row_key roll) (key (of x)) ≡ false) (λ x. of_key (key (of x)) lists ≡ [])
    (λ x off. none_of Q roll (key (of x)) lists owned off) rows
    (all_unmap (λ y. has (map row_key roll) (key y) ≡ false) of rows
    (subst (λ ks. AllByRecursion (λ y. has ks (key y) ≡ false) (map of rows)) keys (are_fresh key (map of rows) (map show roll) up)))

whole_none : {X : Type 0} (key : X → Key) (lists : List Row) (xs : List X)
    → AllByRecursion (λ x. of_key (key x) lists ≡ []) xs → AllByRecursion (λ x. IsWhole (of_key (key x) lists)) xs
whole_none key lists xs = all_weaker (λ x. of_key (key x) lists ≡ []) (λ x. IsWhole (of_key (key x) lists))
    (λ x none. subst IsWhole (sym none) tt) xs

module _ (rows : List LecturerRow) (old new : Database) (was : IsConsistentIn First old)
    (better : Good (changed (world_in First old.trees) (Lecturers rows))) (a : Added lecturer_tree (map lecturer_new rows) old new) where
  abbrev lists : List Row
  lists = old.trees ranking_tree

  unranked_yet : AllByRecursion (λ r. of_key r.key lists ≡ []) rows
  unfolding world_in
  unranked_yet = none_yet _ lecturer_key new_lecturer (lecturer_of_cells lists) rows (old.trees lecturer_tree) lists
      (sym (map_twice lecturer_key (lecturer_of_cells lists) (old.trees lecturer_tree)))
      (place_parents old (which.Rankings First) was.own was.sound was.apart.1.1.1.1.1.0) better.sound.lecturers_rise

  lecturers_turned : HasChangedIn First (Lecturers rows) old new
  unfolding world_in
  lecturers_turned = record {
    holds = holds_after lecturer_tree old new refl was a.others a.schema_is (a.sound was.sound) (a.apart was.apart.1.0) was.office (record {
      choices = was.whole.choices;
      rankings = keyed_added (λ k. IsWhole (of_key k lists)) lecturer_tree (map lecturer_new rows) old new a
          (all_map (λ c. IsWhole (of_key (row_key (unnumbered c)) lists)) lecturer_new rows
          (whole_none (λ (r : LecturerRow). r.key) lists rows unranked_yet)) was.whole.rankings;
      ranked = all_added (λ r. has_ranking r ≡ false → of_key (row_key r) lists ≡ []) lecturer_tree (map lecturer_new rows) old new
          (λ r h e. ap (λ k. of_key k lists) (key_bare r) ∙ h (sym (ranked_bare r) ∙ e))
          (λ r h e. sym (ap (λ k. of_key k lists) (key_bare r)) ∙ h (ranked_bare r ∙ e)) a
          (all_map (λ c. has_ranking (unnumbered c) ≡ false → of_key (row_key (unnumbered c)) lists ≡ []) lecturer_new rows
          (all_weaker (λ (r : LecturerRow). of_key r.key lists ≡ [])
          (λ r. has_ranking (unnumbered (lecturer_new r)) ≡ false → of_key r.key lists ≡ [])
          (λ r none e. none) rows unranked_yet)) was.whole.ranked;
    });
    world = world_after First lecturer_tree old new a.others
        ∙ ap (λ l. record (world_in First old.trees) { lecturers = l })
        (roll_added lecturer_key lecturer_new (lecturer_of_cells lists) rows (map new_lecturer rows) lecturer_tree old new
        (lecturer_bare lists) refl a better.sound.lecturers_rise);
  }

pub lecturers_turn : (rows : List LecturerRow) (old new : Database) → Adds lecturer_tree (map lecturer_new rows) old new
    → IsTransitionIn First (Lecturers rows) old new
lecturers_turn rows old new adds was good better = lecturers_turned rows old new was better (added_of _ _ old new (adds was.current))

pub projects_turn : (rows : List ProjectRow) (old new : Database) → Adds project_tree (map project_new rows) old new
    → IsTransitionIn First (Projects rows) old new
unfolding world_in
projects_turn rows old new adds was good better =
    let a = added_of _ _ old new (adds was.current) in
    record {
      holds = holds_after project_tree old new refl was a.others a.schema_is (a.sound was.sound) (a.apart was.apart.1.1.0) was.office
          (record { choices = was.whole.choices; rankings = was.whole.rankings; ranked = was.whole.ranked });
      world = world_after First project_tree old new a.others
          ∙ ap (λ l. record (world_in First old.trees) { projects = l })
          (roll_added project_key project_new project_row rows rows project_tree old new project_bare
          (map-id rows) a better.sound.projects_rise);
    }

module _ (rows : List StudentRow) (old new : Database) (was : IsConsistentIn First old)
    (better : Good (changed (world_in First old.trees) (Students rows))) (a : Added student_tree (map student_new rows) old new) where
  abbrev chosen : List Row
  chosen = old.trees choice_tree

  unlisted_yet : AllByRecursion (λ r. of_key r.key chosen ≡ []) rows
  unfolding world_in
  unlisted_yet = none_yet _ student_key new_student (student_of chosen) rows (old.trees student_tree) chosen
      (sym (map_twice student_key (student_of chosen) (old.trees student_tree)))
      (place_parents old (which.Choices First) was.own was.sound was.apart.1.1.1.1.0) better.sound.students_rise

  students_turned : HasChangedIn First (Students rows) old new
  unfolding world_in
  students_turned =
      let news : map (λ r. student_of chosen (unnumbered (student_new r))) rows ≡ map new_student rows =
      all_map_on (λ r. of_key r.key chosen ≡ []) (λ r. student_of chosen (unnumbered (student_new r))) new_student rows unlisted_yet
      (λ r h. ap (λ l. record { row = r; choice = list_in_order l; placed = None; earlier_choice = []; earlier_placement = None }) h) in
      record {
        holds = holds_after student_tree old new refl was a.others a.schema_is (a.sound was.sound) (a.apart was.apart.1.1.1.0) was.office
            (record {
              choices = keyed_added (λ k. IsWhole (of_key k chosen)) student_tree (map student_new rows) old new a
                  (all_map (λ c. IsWhole (of_key (row_key (unnumbered c)) chosen)) student_new rows
                  (whole_none (λ (r : StudentRow). r.key) chosen rows unlisted_yet)) was.whole.choices;
              rankings = was.whole.rankings;
              ranked = was.whole.ranked;
            });
        world = world_after First student_tree old new a.others
            ∙ ap (λ l. record (world_in First old.trees) { students = l })
            (roll_added student_key student_new (student_of chosen) rows (map new_student rows) student_tree old new
            (student_bare chosen) news a better.sound.students_rise);
      }

pub students_turn : (rows : List StudentRow) (old new : Database) → Adds student_tree (map student_new rows) old new
    → IsTransitionIn First (Students rows) old new
students_turn rows old new adds was good better = students_turned rows old new was better (added_of _ _ old new (adds was.current))

-- in the second round none come
pub no_rows : (rows : NewRows) (db : Database) → IsTransitionIn Second (with_rows_added rows) db db
unfolding world_in
no_rows (come.Lecturers rows) db holds good then = record { holds = holds; world = refl }
no_rows rows db holds good then = record { holds = holds; world = refl }
