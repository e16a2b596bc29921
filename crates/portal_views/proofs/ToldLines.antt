-- Reading a student's line never refuses the student's one row on the roll, with cells in form.
use Rattle.portal_views.proofs.Base.{◌∙◌, ◌∷◌, ◌≡◌, ◌≤◌, AllByRecursion, ApplicantLine, Bool, Database, First}
use Rattle.portal_views.proofs.Base.{HasFirstPlace, HasPlacement, HasStudents, HasTables, IsStudentKey, IsStudentRow}
use Rattle.portal_views.proofs.Base.{Key, List, ListsBy, None, Option, Round, Row, ShowsAs, Some, Students, []}
use Rattle.portal_views.proofs.Base.{all-filter, all_map, all_permuted, all_two, all_unmap, all_weaker, any_alike}
use Rattle.portal_views.proofs.Base.{any_map, ap, arith, by_key, columns, equals, filter, find, first_cell, has}
use Rattle.portal_views.proofs.Base.{has_text, is_sym, length, list_any, list_any-IsPermutation, map, of_key}
use Rattle.portal_views.proofs.Base.{option_map, permuted, permutes, refl, roll_columns, row_key, shown_line}
use Rattle.portal_views.proofs.Base.{student_rows_formed, student_test, student_tree, students_shown, sym}
use Rattle.portal_views.proofs.Base.{placement_line}
use Rattle.portal_views.proofs.Base.{true, length-map, length_permutation, IsPermutation-sym, IsNamed}
use Rattle.portal_views.proofs.Base.{IsNamedWithPlacement}
use Rattle.sqlite_rules.proofs.ListLemmas.{all_has, contains_had, has_found, has_kept, some_has}
use Rattle.portal_views.proofs.LineRows.{first_told}
use Rattle.portal_views.proofs.OneKey.{one_row}
use Rattle.portal_views.proofs.Owners.{keys_shown}

-- what the reading of the first round's lines asks is part of it
pub of_first : (round : Round) (db : Database) → HasStudents round db → HasStudents First db
of_first round db students = record {
  tables = students.tables;
  persons = students.persons;
  first = students.first;
  places = students.first;
}

some_kept : (p : Row → Bool) (rows : List Row) → list_any p rows ≡ true → 1 ≤ length (filter p rows)
some_kept p rows h =
    let found = some_has p rows h in
    let at = contains_had (filter p rows) found.0 (has_kept p rows found.0 found.1 found.2) in omega (arith, at.1)

module _ (db : Database) (key : Key) where
  abbrev table : List Row
  table = db.trees student_tree

  abbrev Shown : List Row → Type 0
  Shown = ListsBy (1 ∷ []) (has_text 1 key) (columns (1 ∷ 2 ∷ 4 ∷ [])) table

  -- each cell that is shown of a student has its form
  pub told_fine : (round : Round) → HasStudents round db → (shown : List Row) → Shown shown
      → AllByRecursion IsNamedWithPlacement shown
  told_fine round students shown lists =
      let IsGood : Row → Type 0 = λ c. IsNamed c × HasFirstPlace c in
      let roll : AllByRecursion IsGood (students_shown db.trees) =
      all_two IsNamed HasFirstPlace IsGood (λ c n p. (n, p)) (students_shown db.trees) students.persons students.first in
      let rows : AllByRecursion (λ r. IsGood (roll_columns r)) table =
      all_permuted (λ r. IsGood (roll_columns r)) (by_key table) table (IsPermutation-sym _ _ (permutes row_key table))
      (all_unmap IsGood roll_columns (by_key table) roll) in
      all_permuted IsNamedWithPlacement _ shown (permuted _ _ _ table shown lists)
      (all_map IsNamedWithPlacement (columns (1 ∷ 2 ∷ 4 ∷ [])) (filter (has_text 1 key) table)
      (all-filter (λ r. IsGood (roll_columns r)) (has_text 1 key) table rows))

  -- of a student on the roll there is one row
  pub lines_once : HasTables db → IsStudentKey db.trees key → (lines : List ApplicantLine)
      → ShowsAs placement_line Shown lines → length lines ≡ 1
  lines_once tables on lines shows =
      let roll = by_key table in
      let mine : List Row = of_key key table in
      let known : list_any (λ r. equals key (row_key r)) table ≡ true =
      list_any-IsPermutation (λ r. equals key (row_key r)) table roll (permutes row_key table) ∙ sym (any_map (equals key) row_key roll)
      ∙ sym (ap (λ ks. has ks key) (keys_shown (2 ∷ 3 ∷ 4 ∷ []) table)) ∙ on in
      let there : list_any (has_text 1 key) table ≡ true =
      any_alike (has_text 1 key) (λ r. equals key (row_key r)) table
      (all_weaker IsStudentRow _ (λ r x. student_test key r x ∙ is_sym (row_key r) key) table
      (student_rows_formed db tables.own tables.sound tables.apart.1.1.1.0)) ∙ known in
      let low = some_kept (has_text 1 key) table there in
      let high = one_row db Students tables.current tables.sound tables.apart.1.1.1.0 key in
      let shown : length shows.rows ≡ length mine =
      length_permutation (map (columns (1 ∷ 2 ∷ 4 ∷ [])) mine) shows.rows (permuted _ _ _ table shows.rows shows.shown)
      ∙ length-map mine (columns (1 ∷ 2 ∷ 4 ∷ [])) in
      let told : length lines ≡ length shows.rows = ap length shows.decoded ∙ length-map shows.rows placement_line in
      omega (arith, low, high, shown, told)

  -- which is that of the line
  pub line_row : (round : Round) → HasStudents round db → (lines : List ApplicantLine)
      → ShowsAs placement_line Shown lines
      → (l : ApplicantLine) → lines ≡ l ∷ []
      → (c : Row) × (first_cell c ≡ l.person.key) × HasPlacement round db.trees c
  line_row round students lines shows l only =
      go (find (λ c. equals (first_cell c) key) (students_shown db.trees)) refl (first_told db students.tables key lines shows l only)
    where
      go : (o : Option Row) → find (λ c. equals (first_cell c) key) (students_shown db.trees) ≡ o
          → Some l ≡ option_map (shown_line First db.trees) o
          → (c : Row) × (first_cell c ≡ l.person.key) × HasPlacement round db.trees c
      go None is e = absurd (cc)
      go (Some c) is e =
          let same : shown_line First db.trees c ≡ l = cc in (
            c,
            ap (λ (x : ApplicantLine). x.person.key) same,
            all_has (HasPlacement round db.trees) (students_shown db.trees) c students.places
                (has_found (λ c. equals (first_cell c) key) (students_shown db.trees) c is).0,
          )
