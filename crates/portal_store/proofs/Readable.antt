-- Consistent tables of a good world are never refused when a view is read.
use Rattle.portal_store.proofs.Base.{◌≡◌, ◌≤◌, ◌||◌, ◌∷◌, ◌++◌, Bool, true, false, cond, ℕ, List, [], map, filter, length, arith}
use Rattle.portal_store.proofs.Base.{refl, sym, ap, subst, ◌∙◌, cases_Bool, inl, inr, AllByRecursion, all_map, all_unmap, all_weaker}
use Rattle.portal_store.proofs.Base.{all_two, all_permuted, all-filter, permutes, is_sym, is_same, has, equals, Key}
use Rattle.portal_store.proofs.Base.{Row, column, bytes, Database}
use Rattle.portal_store.proofs.Base.{Round, First, Second, Good, Lecturer, Student, IsConsistentIn, world_in, Whole}
use Rattle.portal_store.proofs.Base.{by_key, row_key, lecturer_tree, student_tree, lecturers_shown, projects_shown}
use Rattle.portal_store.proofs.Base.{students_shown, shown_project, shown_student, lecturer_columns, roll_columns}
use Rattle.portal_store.proofs.Base.{HasPlacement, AreFine, RollsRise, ListsBy, has_text, IsProject, IsStudent, first_cell}
use Rattle.portal_store.proofs.Base.{lecturer_rows_formed, student_rows_formed, length_permutation, columns, map-map}
use Rattle.portal_store.proofs.Base.{lecturer_stored, student_stored, IsFine, choice_table}
use Rattle.portal_store.proofs.Absent.{as_many}
use Rattle.portal_store.proofs.Fine.{PlacesOnce, all_fine, rolls_rise, stands_before}
use Rattle.portal_store.proofs.Holding.{has_tables}
use Rattle.portal_store.proofs.Loaded.{lecturers_by_key, students_by_key}
use Rattle.portal_store.proofs.OfficeSeen.{has_whole_lists, own_whole}
use Rattle.portal_store.proofs.Queried.{lecturer_agrees, student_agrees}
use Rattle.portal_rules.specs.Words.{AreDistinct}
use Rattle.spa_rows.specs.Lines.{is_key}
use Rattle.sqlite_trees.proofs.ListLemmas.{IsPermutation-filter}
use Rattle.std.proofs.lemmas.Bool.{or_parts}
use Rattle.std.proofs.lemmas.List.Sorted.{IsPermutation-sym}
use Rattle.portal_tables.proofs.Listed.{permuted}
use Rattle.portal_tables.proofs.OneFound.{filter_alike}
use Rattle.portal_tables.specs.inner.Placements.{HasFirstPlace, HasPairKeys}
use Rattle.portal_views.proofs.OneKey.{one_place}
use Rattle.portal_views.specs.inner.Callers.{HasOwnKeys, IsReadable, IsReadableByLecturer}
use Rattle.portal_views.specs.inner.Catalogue.{HasOffers, HasFirstPairs}
use Rattle.portal_views.specs.inner.Lines.{HasStudents, IsNamed}
use Rattle.portal_views.specs.inner.Office.{IsReadableByOffice}

-- of distinct codes, one is of one row

front : (xs ys : List Key) (k : Key) → has (xs ++ ys) k ≡ false → has xs k ≡ false
front [] ys k h = refl
front (x ∷ xs) ys k h =
    let two = or_parts (equals k x) (has (xs ++ ys) k) h in
    ap (λ b. b || has xs k) two.0 ∙ front xs ys k two.1

left_distinct : (xs ys : List Key) → AreDistinct (xs ++ ys) → AreDistinct xs
left_distinct [] ys h = tt
left_distinct (x ∷ xs) ys h = (front xs ys x h.0, left_distinct xs ys h.1)

right_distinct : (xs ys : List Key) → AreDistinct (xs ++ ys) → AreDistinct ys
right_distinct [] ys h = h
right_distinct (x ∷ xs) ys h = right_distinct xs ys h.1

module _ (f : Row → Key) where
  none_more : (k : Key) (rows : List Row) → has (map f rows) k ≡ false → length (filter (λ r. equals (f r) k) rows) ≤ 0
  none_more k [] h = omega arith
  none_more k (r ∷ rows) h =
      let two = or_parts (equals k (f r)) (has (map f rows) k) h in
      let rest = none_more k rows two.1 in
      subst (λ b. length (cond b (r ∷ filter (λ r. equals (f r) k) rows) (filter (λ r. equals (f r) k) rows)) ≤ 0)
      (sym (is_sym (f r) k ∙ two.0)) rest

  one_of : (k : Key) (rows : List Row) → AreDistinct (map f rows) → length (filter (λ r. equals (f r) k) rows) ≤ 1
  one_of k [] h = omega arith
  one_of k (r ∷ rows) h = elim (cases_Bool (equals (f r) k)) [
    | inl same ↦
        let none = none_more k rows (subst (λ l. has (map f rows) l ≡ false) (is_same (f r) k same) h.0) in
        subst (λ b. length (cond b (r ∷ filter (λ r. equals (f r) k) rows) (filter (λ r. equals (f r) k) rows)) ≤ 1)
        (sym same) (omega (arith, none))
    | inr other ↦
        let rest = one_of k rows h.1 in
        subst (λ b. length (cond b (r ∷ filter (λ r. equals (f r) k) rows) (filter (λ r. equals (f r) k) rows)) ≤ 1)
        (sym other) rest
  ]

abbrev code_at : Row → Key
code_at r = bytes (column r 3)

-- the rows of one code, where the codes of all rows are distinct in the order of keys
one_code : (code : Key) (show : Row → Row) (table shown : List Row) → AllByRecursion
    (λ r. has_text 3 code r ≡ equals (code_at r) code) table
    → AreDistinct (map code_at (by_key table)) → ListsBy (1 ∷ []) (has_text 3 code) show table shown → length shown ≤ 1
one_code code show table shown agree apart lists =
    let test : Row → Bool = λ r. equals (code_at r) code in
    let many = as_many (1 ∷ []) (has_text 3 code) show table shown lists in
    let alike = ap length (filter_alike (has_text 3 code) test table agree) in
    let moved = length_permutation (filter test table) (filter test (by_key table))
    (IsPermutation-filter test table (by_key table) (permutes row_key table)) in
    let one = one_of code_at code (by_key table) apart in
    omega (arith, many, alike, moved, one)

-- what is so of all rows as they are shown is so of those that a query shows
of_shown : (P : Row → Type 0) (keys : List ℕ) (passes : Row → Bool) (show : Row → Row) (table shown : List Row)
    → ListsBy keys passes show table shown → AllByRecursion P (map show (by_key table)) → AllByRecursion P shown
of_shown P keys passes show table shown lists all =
    let each : AllByRecursion (λ r. P (show r)) table = all_permuted (λ r. P (show r)) (by_key table) table
    (IsPermutation-sym table (by_key table) (permutes row_key table)) (all_unmap P show (by_key table) all) in
    all_permuted P (map show (filter passes table)) shown (permuted keys passes show table shown lists)
    (all_map P show (filter passes table) (all-filter (λ r. P (show r)) passes table each))

once : (round : Round) (db : Database) → IsConsistentIn round db → PlacesOnce round db.trees
once First db holds = tt
once Second db holds = one_place db holds.current holds.sound holds.apart.1.1.1.1.1.1.1.1.1.1.0

first_places : (round : Round) (db : Database) → IsConsistentIn round db → Good (world_in round db.trees)
    → AllByRecursion HasFirstPlace (students_shown db.trees)
first_places First db holds good = (all_fine First db.trees holds.whole good tt).places
first_places Second db holds good =
    let before = stands_before db.trees (record { office = holds.office; second = holds.second; whole = holds.whole; good = good }) in
    (all_fine First db.trees before.whole before.good tt).places

module _ (round : Round) (db : Database) (holds : IsConsistentIn round db) (good : Good (world_in round db.trees)) where
  whole : Whole round db.trees
  whole = own_whole round db.trees holds.whole

  fine : AreFine round db.trees (lecturers_shown db.trees) (projects_shown db.trees) (students_shown db.trees)
  fine = all_fine round db.trees whole good (once round db holds)

  rise : RollsRise db.trees
  rise = rolls_rise round db.trees whole good

  first : AllByRecursion HasFirstPlace (students_shown db.trees)
  first = first_places round db holds good

  pub has_offers : HasOffers db
  has_offers = record {
    sound = holds.sound;
    lecturers_rise = rise.lecturers_rise;
    projects_rise = rise.projects_rise;
    lecturers = fine.lecturer_forms;
    projects = fine.project_forms;
  }

  pub has_first_pairs : (there : Round) → HasFirstPairs there db.trees
  has_first_pairs First = tt
  has_first_pairs Second =
      let rows = by_key (db.trees student_tree) in (
        rise.students_rise,
        all_map HasPairKeys (columns (1 ∷ 4 ∷ [])) rows
            (all_two (λ r. IsStudent (shown_student (roll_columns r))) (λ r. HasFirstPlace (roll_columns r))
            (λ r. HasPairKeys (columns (1 ∷ 4 ∷ []) r)) (λ r form place. (form.key, place)) rows
            (all_unmap (λ c. IsStudent (shown_student c)) roll_columns rows fine.student_forms)
            (all_unmap HasFirstPlace roll_columns rows first)),
      )

  persons : AllByRecursion IsNamed (students_shown db.trees)
  persons = all_weaker (λ c. IsStudent (shown_student c)) IsNamed (λ c form. (form.key, form.name)) (students_shown db.trees)
      fine.student_forms

  pub readable_by_office : IsReadableByOffice round db
  readable_by_office = record {
    lists = has_whole_lists round db holds;
    lecturer_forms = fine.lecturer_forms;
    project_forms = fine.project_forms;
    student_forms = fine.student_forms;
    first = first;
    places = fine.places;
  }

  has_own_keys : (lecturer : Key) → HasOwnKeys lecturer db
  has_own_keys lecturer = record {
    tables = has_tables db holds;
    keys = all_map (λ k. is_key k ≡ true) first_cell (filter (λ c. equals (bytes (column c 1)) lecturer) (projects_shown db.trees))
        (all-filter (λ c. is_key (first_cell c) ≡ true) _ (projects_shown db.trees)
        (all_weaker (λ c. IsProject (shown_project c)) (λ c. is_key (first_cell c) ≡ true) (λ c form. form.key) (projects_shown db.trees)
        fine.project_forms));
  }

  has_students : HasStudents round db
  has_students = record { tables = has_tables db holds; persons = persons; first = first; places = fine.places }

  -- the row of a code, if a query shows one, and that it is the only one
  module _ (code : Key) (rows : List Row) where
    pub lecturers_readable : ListsBy (1 ∷ []) (has_text 3 code) lecturer_columns (db.trees lecturer_tree) rows
        → AllByRecursion (λ c. IsReadableByLecturer round c db) rows
    lecturers_readable lists =
        of_shown (λ c. IsReadableByLecturer round c db) (1 ∷ []) (has_text 3 code) lecturer_columns (db.trees lecturer_tree) rows lists
        (all_two _ _ _ (λ c form ranking. record {
          person = (form.key, form.name);
          low = form.low;
          high = form.high;
          ranking = ranking;
          projects = has_own_keys (first_cell c);
          students = has_students;
        }) (lecturers_shown db.trees) fine.lecturer_forms fine.rankings)

    pub students_readable : ListsBy (1 ∷ []) (has_text 3 code) roll_columns (db.trees student_tree) rows
        → AllByRecursion (IsReadable round db.trees) rows
    students_readable lists =
        of_shown (IsReadable round db.trees) (1 ∷ []) (has_text 3 code) roll_columns (db.trees student_tree) rows lists
        (all_two (λ c. IsNamed c × IsFine (choice_table round) db.trees c) (λ c. HasFirstPlace c × HasPlacement round db.trees c)
        (IsReadable round db.trees) (λ c named more. record {
          person = named.0;
          whole = named.1.read.whole;
          names = named.1.names;
          first = more.0;
          place = more.1;
        }) (students_shown db.trees)
        (all_two _ _ _ (λ c a b. (a, b)) (students_shown db.trees) persons fine.choices)
        (all_two _ _ _ (λ c a b. (a, b)) (students_shown db.trees) first fine.places))

    pub one_lecturer : ListsBy (1 ∷ []) (has_text 3 code) lecturer_columns (db.trees lecturer_tree) rows → length rows ≤ 1
    unfolding world_in
    one_lecturer lists = one_code code lecturer_columns (db.trees lecturer_tree) rows
        (all_weaker _ _ (lecturer_agrees code) (db.trees lecturer_tree)
        (lecturer_rows_formed db holds.own holds.sound holds.apart.1.0))
        (subst AreDistinct (ap (map (λ (l : Lecturer). l.row.code)) (lecturers_by_key round db.trees)
        ∙ map-map (λ (l : Lecturer). l.row.code) (lecturer_stored round db.trees) (by_key (db.trees lecturer_tree)))
        (left_distinct (map (λ (l : Lecturer). l.row.code) (world_in round db.trees).lecturers) _ good.sound.codes.1))
        lists

    pub one_student : ListsBy (1 ∷ []) (has_text 3 code) roll_columns (db.trees student_tree) rows → length rows ≤ 1
    unfolding world_in
    one_student lists = one_code code roll_columns (db.trees student_tree) rows
        (all_weaker _ _ (student_agrees code) (db.trees student_tree)
        (student_rows_formed db holds.own holds.sound holds.apart.1.1.1.0))
        (subst AreDistinct (ap (map (λ (s : Student). s.row.code)) (students_by_key round db.trees)
        ∙ map-map (λ (s : Student). s.row.code) (student_stored round db.trees) (by_key (db.trees student_tree)))
        (right_distinct (map (λ (l : Lecturer). l.row.code) (world_in round db.trees).lecturers) _ good.sound.codes.1))
        lists
