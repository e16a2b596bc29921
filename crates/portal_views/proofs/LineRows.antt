-- The lines that are found by the keys of who names a project are those of its applicants.
use Rattle.portal_views.proofs.Base.{◌≡◌, ◌||◌, ◌∷◌, IsStudentRow, student_test, student_rows_formed, inl, inr, Bool}
use Rattle.portal_views.proofs.Base.{true, false, cond, Option, Some, None, option_map, List, [], map, filter, refl}
use Rattle.portal_views.proofs.Base.{sym, ap, subst, ◌∙◌, AllByRecursion, find, filter_map, cases_Bool, map-id, Row}
use Rattle.portal_views.proofs.Base.{Trees, Database, Round, First, Second, Students, Choices, tree_of, Has, Key}
use Rattle.portal_views.proofs.Base.{equals, has, is_before, Rise, all_map, all_weaker, before_other, rise_kept}
use Rattle.portal_views.proofs.Base.{is_same, is_own, all_unmap, row_key, by_key, roll_columns, students_shown}
use Rattle.portal_views.proofs.Base.{student_tree, ListsBy, columns, has_text, chosen, ShowsAs, first_cell, HasTables}
use Rattle.portal_views.proofs.Base.{in_round, shown_line, placement_line, applicant_at, applicant_lines, ApplicantLine}
use Rattle.portal_views.proofs.Base.{all_of, found, at, has_of, one_order, map_alike_on, map_twice}
use Rattle.portal_views.proofs.Choosers.{chooser, choosers_known}
use Rattle.portal_views.proofs.Owners.{keys_shown}
use Rattle.portal_views.proofs.OneKey.{roll_keys_rise}
use Rattle.portal_tables.proofs.Lists.{sifted}
use Rattle.portal_rules.proofs.Keys.{find_map}
use Rattle.sqlite_rules.proofs.ListLemmas.{has_filtered, some_has}

only_told : (shown : List Row) (l : ApplicantLine) → map placement_line shown ≡ l ∷ []
    → (c : Row) × (shown ≡ c ∷ []) × (placement_line c ≡ l)
only_told (c ∷ []) l e = (c, refl, cc)
only_told _ l e = absurd (cc)

-- the only row of a key tells the line of its student
pub first_told : (db : Database) → HasTables db → (key : Key) (lines : List ApplicantLine)
    → ShowsAs placement_line (ListsBy (1 ∷ []) (has_text 1 key) (columns (1 ∷ 2 ∷ 4 ∷ [])) (db.trees student_tree)) lines
    → (l : ApplicantLine) → lines ≡ l ∷ [] → Some l ≡ applicant_at First db.trees key
first_told db tables key lines shows l only =
    let one = only_told shows.rows l (sym shows.decoded ∙ only) in
    let table = db.trees student_tree in
    let told = found (1 ∷ []) (has_text 1 key) (columns (1 ∷ 2 ∷ 4 ∷ [])) (λ r. shown_line First db.trees (roll_columns r)) placement_line
    (λ (x : ApplicantLine). equals x.person.key key) (λ r. refl) table shows.rows
    (all_weaker IsStudentRow (λ r. has_text 1 key r ≡ equals (row_key r) key) (student_test key) table
    (student_rows_formed db tables.own tables.sound tables.apart.1.1.1.0)) shows.shown (Some one.0) (sym one.1) in
    ap Some (sym one.2) ∙ told ∙ ap (find (λ (x : ApplicantLine). equals x.person.key key))
    (map_twice (shown_line First db.trees) roll_columns (by_key table))
    ∙ find_map (shown_line First db.trees) (λ c. equals (first_cell c) key) (λ (x : ApplicantLine). equals x.person.key key) (λ c. refl)
    (students_shown db.trees)

-- of either round, with its place
by_round : (round : Round) (db : Trees) (o : Option Row)
    → option_map (in_round round db) (option_map (shown_line First db) o) ≡ option_map (shown_line round db) o
by_round First db None = refl
by_round First db (Some c) = refl
by_round Second db None = refl
by_round Second db (Some c) = refl

pub line_told : (round : Round) (db : Database) → HasTables db → (key : Key) (lines : List ApplicantLine)
    → ShowsAs placement_line (ListsBy (1 ∷ []) (has_text 1 key) (columns (1 ∷ 2 ∷ 4 ∷ [])) (db.trees student_tree)) lines
    → (l : ApplicantLine) → lines ≡ l ∷ [] → Some (in_round round db.trees l) ≡ applicant_at round db.trees key
line_told round db tables key lines shows l only =
    ap (option_map (in_round round db.trees)) (first_told db tables key lines shows l only)
    ∙ by_round round db.trees (find (λ c. equals (first_cell c) key) (students_shown db.trees))

some_back : (ls : List ApplicantLine) → filter_map (λ o. o) (map Some ls) ≡ ls
some_back [] = refl
some_back (l ∷ ls) = ap (λ r. l ∷ r) (some_back ls)

-- a key that stands among keys
there : (ks : List Key) (k : Key) → has ks k ≡ true → Has ks k
there ks k h = let found = some_has (equals k) ks h in subst (Has ks) (sym (is_same k found.0 found.2)) found.1

-- of rows some pass, those whose keys are among these
module _ (ks : List Key) (q : Row → Bool) where
  abbrev Agree : Row → Type 0
  Agree s = has ks (first_cell s) ≡ q s

  passed : (ss : List Row) → AllByRecursion Agree ss → AllByRecursion (λ s. has ks (first_cell s) ≡ true) (filter q ss)
  passed ss all = all_weaker (λ s. Agree s × (q s ≡ true)) _ (λ s both. both.0 ∙ both.1) (filter q ss) (sifted Agree q ss all)

  kept : (ss : List Row) (k : Key) → AllByRecursion Agree ss → has (map first_cell ss) k ≡ true → has ks k ≡ true
      → Has (map first_cell (filter q ss)) k
  kept [] k all on h = absurd (cc)
  kept (s ∷ ss) k all on h = elim (cases_Bool (equals k (first_cell s))) [
    | inl same ↦
        let e : k ≡ (first_cell s) = is_same k (first_cell s) same in
        let passes : true ≡ q s = sym (subst (λ x. has ks x ≡ true) e h) ∙ all.0 in
        subst (λ b. Has (map first_cell (cond b (s ∷ filter q ss) (filter q ss))) k) passes (inl e)
    | inr other ↦
        let rest = kept ss k all.1 (ap (λ b. b || has (map first_cell ss) k) (sym other) ∙ on) h in
        elim (q s) as (λ b. Has (map first_cell (cond b (s ∷ filter q ss) (filter q ss))) k) [ true ↦ inr rest | false ↦ rest ]
  ]

-- where the keys rise, a student is found by the own key
found_own : (ss : List Row) → Rise (map first_cell ss) → (s : Row) → Has ss s
    → find (λ t. equals (first_cell t) (first_cell s)) ss ≡ Some s
found_own [] up s h = absurd h
found_own (x ∷ ss) up s (inl e) =
    ap (λ b. cond b (Some x) (find (λ t. equals (first_cell t) (first_cell s)) ss))
    (subst (λ y. equals (first_cell x) (first_cell y) ≡ true) (sym e) (is_own (first_cell x))) ∙ ap Some (sym e)
found_own (x ∷ ss) up s (inr h) =
    ap (λ b. cond b (Some x) (find (λ t. equals (first_cell t) (first_cell s)) ss))
    (before_other (first_cell x) (first_cell s)
    (at (λ t. is_before (first_cell x) (first_cell t) ≡ true) ss s
    (all_unmap (λ l. is_before (first_cell x) l ≡ true) first_cell ss up.0) h))
    ∙ found_own ss up.1 s h

pub lines_are : (round : Round) (db : Database) → HasTables db → (p : Key) (shown : List Row)
    → ListsBy (1 ∷ []) (has_text 3 p) (columns (1 ∷ [])) (db.trees (tree_of (Choices round))) shown
    → (lines : List ApplicantLine) → Rise (map first_cell shown)
    → map Some lines ≡ map (λ c. applicant_at round db.trees (first_cell c)) shown → lines ≡ applicant_lines round db.trees p
lines_are round db tables p shown lists lines up told =
    let roll : List Row = students_shown db.trees in
    let q : Row → Bool = λ c. has (chosen (db.trees (tree_of (Choices round))) (first_cell c)) p in
    let mine : List Row = filter q roll in
    let rise : Rise (map first_cell roll) = subst Rise (sym (keys_shown (2 ∷ 3 ∷ 4 ∷ []) (db.trees student_tree)))
    (roll_keys_rise db Students tables.current tables.sound tables.apart.1.1.1.0) in
    let agree : AllByRecursion (Agree (map first_cell shown) q) roll =
    all_of _ (λ c. chooser round db tables p shown lists (first_cell c)) roll in
    let keys : map first_cell shown ≡ map first_cell mine =
    one_order (λ (k : Key). k) (map first_cell shown) (map first_cell mine) (subst Rise (sym (map-id (map first_cell shown))) up)
    (subst Rise (sym (map-id (map first_cell mine))) (rise_kept first_cell q roll rise))
    (λ k h. kept (map first_cell shown) q roll k agree
    (at (λ k. has (map first_cell roll) k ≡ true) (map first_cell shown) k (choosers_known round db tables p shown lists) h)
    (has_of (map first_cell shown) k h))
    (λ k h. there (map first_cell shown) k (at (λ k. has (map first_cell shown) k ≡ true) (map first_cell mine) k
    (all_map (λ k. has (map first_cell shown) k ≡ true) first_cell mine (passed (map first_cell shown) q roll agree)) h)) in
    let each : map (λ c. applicant_at round db.trees (first_cell c)) mine ≡ map (λ c. Some (shown_line round db.trees c)) mine =
    map_alike_on _ _ mine (λ c h. ap (λ o. option_map (shown_line round db.trees) o) (found_own roll rise c (has_filtered q roll c h).0)) in
    let all : map Some lines ≡ map Some (map (shown_line round db.trees) mine) =
    told ∙ map_twice (applicant_at round db.trees) first_cell shown ∙ ap (map (applicant_at round db.trees)) keys
    ∙ sym (map_twice (applicant_at round db.trees) first_cell mine) ∙ each ∙ map_twice Some (shown_line round db.trees) mine in
    sym (some_back lines) ∙ ap (filter_map (λ o. o)) all ∙ some_back (map (shown_line round db.trees) mine)
