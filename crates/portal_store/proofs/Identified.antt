-- The row that a query shows by a code, and whom it stands for.
use Rattle.portal_store.proofs.Base.{◌≡◌, ◌≤◌, Option, option_map, List, [], ◌∷◌, refl, sym, ap, ◌∙◌, find, Row, column, length}
use Rattle.portal_store.proofs.Base.{bytes, Database, Key, equals, Lecturer, Student, Good}
use Rattle.portal_store.proofs.Base.{lecturer_with, student_with, all_weaker, Round, First, lecturer_tree}
use Rattle.portal_store.proofs.Base.{student_tree, has_text, ListsBy, lecturer_columns, roll_columns, world_in}
use Rattle.portal_store.proofs.Base.{lecturer_stored, student_stored, lecturer_from, student_from}
use Rattle.portal_store.proofs.Base.{IsLecturerRow, IsStudentRow, lecturer_rows_formed, MatchResult-weaker, GivesOrFails}
use Rattle.portal_store.proofs.Base.{student_rows_formed, as_list, found, Anyhow, Reading}
use Rattle.portal_store.proofs.Base.{RemembersIn, Result, State, TableFault, reads_as, reads_first, IsStoreFault}
use Rattle.portal_store.specs.declared.reading.view_cache.ViewCache.{ViewCache}
use Rattle.portal_tables.specs.Reads.{Always, Blames}
use Rattle.portal_tables.proofs.InTurn.{its_own}
use Rattle.portal_store.proofs.Loaded.{lecturers_by_key, students_by_key}
use Rattle.portal_store.proofs.Queried.{lecturer_agrees, student_agrees, lecturer_is, student_is}
use Rattle.portal_store.proofs.Readable.{one_lecturer, one_student}

-- the row that a query shows by a code, if there is one, stands for who has the code
module _ {round : Round} {cache : ViewCache} {r : Result (Option Row) TableFault} {a b : State}
    (code : Key) {Shown : Database → Option Row → Type 0} {Faulty : Database → TableFault → Type 0} where
  pub lecturer_found : ((o : Option Row) → Shown a.now o
      → ListsBy (1 ∷ []) (has_text 3 code) lecturer_columns (a.now.trees lecturer_tree) (as_list o))
      → ((fault : TableFault) → Faulty a.now fault → Blames fault ((rows : List Row)
      → ListsBy (1 ∷ []) (has_text 3 code) lecturer_columns (a.now.trees lecturer_tree) rows → length rows ≤ 1))
      → Reading First Anyhow Always IsStoreFault (GivesOrFails Shown Faulty) r a b
      → Reading round Anyhow (RemembersIn round cache) IsStoreFault
      (GivesOrFails (λ db o. (option_map (lecturer_from round db.trees) o ≡ lecturer_with (world_in round db.trees) code)
      × ListsBy (1 ∷ []) (has_text 3 code) lecturer_columns (db.trees lecturer_tree) (as_list o))
      (λ db fault. Blames fault (Good (world_in round db.trees)))) r a b
  unfolding world_in
  lecturer_found lists few h = reads_as (its_own _ r) (reads_first h) (λ no. no) (λ own right told. MatchResult-weaker r told (λ o shown. (
    found (1 ∷ []) (has_text 3 code) lecturer_columns (lecturer_stored round a.now.trees) (lecturer_from round a.now.trees)
        (λ (l : Lecturer). equals l.row.code code) (lecturer_is round a.now.trees) (a.now.trees lecturer_tree) (as_list o)
        (all_weaker IsLecturerRow (λ r. has_text 3 code r ≡ equals (bytes (column r 3)) code) (lecturer_agrees code)
        (a.now.trees lecturer_tree) (lecturer_rows_formed a.now right.0.own right.0.sound right.0.apart.1.0)) (lists o shown) o refl
        ∙ ap (find (λ (l : Lecturer). equals l.row.code code)) (sym (lecturers_by_key round a.now.trees)),
    lists o shown,
  ))
      (λ fault told damaged good. few fault told damaged (λ rows shown. one_lecturer round a.now right.0 good code rows shown)))

  pub student_found : ((o : Option Row) → Shown a.now o
      → ListsBy (1 ∷ []) (has_text 3 code) roll_columns (a.now.trees student_tree) (as_list o))
      → ((fault : TableFault) → Faulty a.now fault → Blames fault ((rows : List Row)
      → ListsBy (1 ∷ []) (has_text 3 code) roll_columns (a.now.trees student_tree) rows → length rows ≤ 1))
      → Reading First Anyhow Always IsStoreFault (GivesOrFails Shown Faulty) r a b
      → Reading round Anyhow (RemembersIn round cache) IsStoreFault
      (GivesOrFails (λ db o. (option_map (student_from round db.trees) o ≡ student_with (world_in round db.trees) code)
      × ListsBy (1 ∷ []) (has_text 3 code) roll_columns (db.trees student_tree) (as_list o))
      (λ db fault. Blames fault (Good (world_in round db.trees)))) r a b
  unfolding world_in
  student_found lists few h = reads_as (its_own _ r) (reads_first h) (λ no. no) (λ own right told. MatchResult-weaker r told (λ o shown. (
    found (1 ∷ []) (has_text 3 code) roll_columns (student_stored round a.now.trees) (student_from round a.now.trees)
        (λ (s : Student). equals s.row.code code) (student_is round a.now.trees) (a.now.trees student_tree) (as_list o)
        (all_weaker IsStudentRow (λ r. has_text 3 code r ≡ equals (bytes (column r 3)) code) (student_agrees code)
        (a.now.trees student_tree)
        (student_rows_formed a.now right.0.own right.0.sound right.0.apart.1.1.1.0)) (lists o shown) o refl
        ∙ ap (find (λ (s : Student). equals s.row.code code)) (sym (students_by_key round a.now.trees)),
    lists o shown,
  ))
      (λ fault told damaged good. few fault told damaged (λ rows shown. one_student round a.now right.0 good code rows shown)))
