-- The texts that write, and what each does to its table, whatever the checks are.
use Rattle.portal_tables.proofs.Base.{◌≡◌, ◌+◌, ◌∷◌, ◌++◌, ◌==◌, ◌/◌, ℕ, pos, Option, Some, slice_get, List, [], map}
use Rattle.portal_tables.proofs.Base.{filter, codes, length, true, false, not, refl, sym, ap, subst, subst₂, ◌∙◌, ⊤}
use Rattle.portal_tables.proofs.Base.{all_map, all_of, flat_map, filter_map, is_eq, Null, Int, Text, Binary, Row}
use Rattle.portal_tables.proofs.Base.{column, value_cmp, Table, put_row, rowid, id_in, value_rows, cast_row, Term, lit}
use Rattle.portal_tables.proofs.Base.{col, op2, Compare, Eq, State, Ghosts, state, Insert, Delete, Update, Values}
use Rattle.portal_tables.proofs.Base.{everything, understood, IsPlain, command_of, works, work_by, deed_for, pairs}
use Rattle.portal_tables.proofs.Base.{parent_key, Enforced, Column, Reference, Order, Lists, First, Second, Choices, Rankings, schema_of}
use Rattle.portal_tables.proofs.Base.{list_table, project_schema, portal_tree, second_tree, ranked2_tree}
use Rattle.portal_tables.proofs.Base.{assigned2_tree, lecturer_tree, project_tree, student_tree, names, place_among}
use Rattle.portal_tables.proofs.Base.{tree_of, clear_text, add_text, add_eight_text, RowNumbersDiffer, Drops, Sets}
use Rattle.portal_tables.proofs.Base.{Becomes, every, IsCurrentSchema, Ran, Made, portal_cells, lecturer_cells}
use Rattle.portal_tables.proofs.Base.{lecturer_new, lecturer_values, project_new, student_new, student_values}
use Rattle.portal_tables.proofs.Base.{place_new, pair_new, AddsBy, Clears, MovesTo, IsOfVersion, phase_text, Round}
use Rattle.portal_tables.proofs.Base.{MarksRanked}
use Rattle.portal_tables.proofs.Base.{portal_row, second_cells, second_row}
use Rattle.portal_tables.proofs.Weak.{portal_with, with_checks, own_is}
use Rattle.portal_tables.proofs.Query.{one_table, passes, shown_as}
use Rattle.portal_tables.proofs.Tests.{param, has_key, same_key, equals_int}
use Rattle.portal_tables.proofs.Lists.{eq_self}
use Rattle.portal_tables.proofs.Writes.{inserted, deleted, updated, cast_int, cast_null, unnumbered}

-- a text that puts rows into a table
pub record Inserts (sql : List ℕ) (at : ℕ) (terms : List Term) (width : ℕ) : Type 0 where
  pub command : (checks more : ℕ → List Term)
      → command_of (understood (portal_with checks more) sql) ≡ Insert at (Values terms width)
  pub plain : (checks more : ℕ → List Term) → IsPlain (understood (portal_with checks more) sql)

-- a text that takes rows from a table
pub record Deletes (sql : List ℕ) (at tree : ℕ) (tests : List Term) : Type 0 where
  pub command : (checks more : ℕ → List Term)
      → command_of (understood (portal_with checks more) sql) ≡ Delete at (record { lets = []; body = one_table tree tests (col 1 0 ∷ []) })
  pub plain : (checks more : ℕ → List Term) → IsPlain (understood (portal_with checks more) sql)

-- a text that changes rows of a table
pub record Updates (sql : List ℕ) (at tree : ℕ) (tests project_schema : List Term) : Type 0 where
  pub command : (checks more : ℕ → List Term)
      → command_of (understood (portal_with checks more) sql)
      ≡ Update at (record { lets = []; body = one_table tree tests (col 1 0 ∷ project_schema) })
  pub plain : (checks more : ℕ → List Term) → IsPlain (understood (portal_with checks more) sql)

-- no table's foreign keys act, whatever rows go and come
pub no_acts : (checks terms : ℕ → List Term) (tree : ℕ) (olds news : List Row)
    → works (portal_with checks terms) Enforced 0 tree olds news ≡ []
no_acts checks terms tree olds news =
    let s = portal_with checks terms in
    elim (length news == 0) as (λ gone. flat_map
    (λ (child : Table). filter_map (λ ref. work_by 0 tree (pairs olds news) child ref (deed_for Enforced gone ref)
    (parent_key s.tables ref)) child.references) s.tables ≡ [])
    [ true ↦ refl | false ↦ refl ]

-- a table of the portal's stands at this place
abbrev StandsAt : ℕ → Table → Type 0
StandsAt at t = (checks more : ℕ → List Term) → slice_get (portal_with checks more).tables at ≡ Some (with_checks checks more t)

-- the values of so many rows, in the place of the terms, are their cells
pub record GivesTo {R : Type 0} (values cells : R → Row) (count width : ℕ) (terms : List Term) : Type 0 where
  pub is : (rows : List R) → length rows ≡ count → (more : Row)
      → value_rows (flat_map values rows ++ more) width (length terms / width) terms ≡ map unnumbered (map cells rows)

pub by_one : {R : Type 0} {values cells : R → Row} {width : ℕ} {terms : List Term}
    → ((a : R) (more : Row) → value_rows (flat_map values (a ∷ []) ++ more) width (length terms / width) terms
    ≡ map unnumbered (map cells (a ∷ []))) → GivesTo values cells 1 width terms
by_one {R} {values} {cells} {width} {terms} given = record { is = go }
  where
    go : (rows : List R) → length rows ≡ 1 → (more : Row)
        → value_rows (flat_map values rows ++ more) width (length terms / width) terms ≡ map unnumbered (map cells rows)
    go (a ∷ []) are = given a
    go _ are = absurd (cc)

pub by_eight : {R : Type 0} {values cells : R → Row} {width : ℕ} {terms : List Term}
    → ((a b c d e f g h : R) (more : Row) → value_rows (flat_map values (a ∷ b ∷ c ∷ d ∷ e ∷ f ∷ g ∷ h ∷ []) ++ more) width
    (length terms / width) terms ≡ map unnumbered (map cells (a ∷ b ∷ c ∷ d ∷ e ∷ f ∷ g ∷ h ∷ [])))
    → GivesTo values cells 8 width terms
by_eight {R} {values} {cells} {width} {terms} given = record { is = go }
  where
    go : (rows : List R) → length rows ≡ 8 → (more : Row)
        → value_rows (flat_map values rows ++ more) width (length terms / width) terms ≡ map unnumbered (map cells rows)
    go (a ∷ b ∷ c ∷ d ∷ e ∷ f ∷ g ∷ h ∷ []) are = given a b c d e f g h
    go _ are = absurd (cc)

-- the one row of a table changes whose id is 1
abbrev the_one : List Term
the_one = op2 (Compare Eq Binary) (col 1 0) (lit (Int (pos 1))) ∷ []

passed : (params r : Row) → column r 0 ≡ Int (pos 1) → passes the_one params r ≡ true
passed params r is = equals_int (column r 0) (pos 1) ∙ ap (λ v. is_eq (value_cmp v (Int (pos 1)))) is ∙ eq_self (Int (pos 1))

module _ (at : ℕ) (name : List ℕ) (tree : ℕ) (columns : List Column) (key : Option ℕ) (primary : List ℕ) (uniques : List (List ℕ))
    (orders : List Order) (references : List Reference)
    (stands : StandsAt at (schema_of name tree columns key primary uniques orders [] references)) where
  -- the row is of the table's kinds
  abbrev Fits : (checks more : ℕ → List Term) → Row → Row → Type 0
  Fits checks more row fit = cast_row (with_checks checks more (schema_of name tree columns key primary uniques orders [] references)) row
      ≡ fit

  rows_added : {S R : Type 0} (g : Ghosts S) (values cells : R → Row)
      → ((checks more : ℕ → List Term) (r : R) → Fits checks more (unnumbered (cells r)) (unnumbered (cells r)))
      → (count : ℕ) (sql : List ℕ) (terms : List Term) (width : ℕ) → Inserts sql at terms width → GivesTo values cells count width terms
      → AddsBy g sql count tree values cells
  rows_added g values cells fit count sql terms width inserts given rows are old new ran = record {
    shown = ran.shown;
    changed = λ own.
        let w = own_is Second (state g old).now.schema own in
        inserted (portal_with w.o.checks w.o.terms) sql at name tree columns key primary uniques orders (w.o.checks tree) references
        (w.o.terms tree) (stands w.o.checks w.o.terms) (λ P all. all)
        terms width (inserts.command w.o.checks w.o.terms) (inserts.plain w.o.checks w.o.terms) (no_acts w.o.checks w.o.terms tree [])
        (flat_map values rows) (map cells rows) (given.is rows are)
        (all_map (λ c. Fits w.o.checks w.o.terms (unnumbered c) (unnumbered c)) cells rows (all_of _ (fit w.o.checks w.o.terms) rows))
        (state g old) (state g new) ran.count w.is ran.runs;
  }

  dropped : (sql : List ℕ) (tests : List Term) → Deletes sql at tree tests
      → (params : Row) (old new : State) → Ran sql params old new → IsCurrentSchema old.now.schema → RowNumbersDiffer (old.now.trees tree)
      → Drops tree (passes tests params) old.now new.now
  dropped sql tests deletes params old new ran own apart =
      let w = own_is Second old.now.schema own in
      deleted (portal_with w.o.checks w.o.terms) sql at name tree columns key primary uniques orders (w.o.checks tree) references
      (w.o.terms tree) (stands w.o.checks w.o.terms) (λ P all. all) tests
      (deletes.command w.o.checks w.o.terms) (deletes.plain w.o.checks w.o.terms)
      (λ olds. no_acts w.o.checks w.o.terms tree olds []) params old new ran.count w.is apart ran.runs

  cleared : (sql : List ℕ) → Deletes sql at tree (has_key 1)
      → (old new : State) (owner : List ℕ) → Ran sql (Text owner ∷ []) old new → Made (Clears tree owner) old new
  cleared sql deletes old new owner ran = record {
    shown = ran.shown;
    changed = λ own apart. subst (λ p. Drops tree p old.now new.now) (same_key 1 owner)
        (dropped sql (has_key 1) deletes (Text owner ∷ []) old new ran own apart);
  }

  one_changed : (sql : List ℕ) (project_schema : List Term) → Updates sql at tree the_one project_schema
      → (params r made : Row) → column r 0 ≡ Int (pos 1) → rowid r ≡ Int (pos 1)
      → ((checks more : ℕ → List Term) → cast_row
      (with_checks checks more (schema_of name tree columns key primary uniques orders [] references))
      (shown_as project_schema params r) ≡ made)
      → (old new : State) → Ran sql params old new → IsCurrentSchema old.now.schema → old.now.trees tree ≡ r ∷ []
      → Becomes tree made old.now new.now
  one_changed sql project_schema updates params r made id number cast old new h own one =
      let w = own_is Second old.now.schema own in
      let p = passes the_one params in
      let hit : p r ≡ true = passed params r id in
      let meets : filter p (old.now.trees tree) ≡ r ∷ [] = ap (filter p) one ∙ rw hit refl in
      let left : filter (λ x. not (p x)) (old.now.trees tree) ≡ [] = ap (filter (λ x. not (p x))) one ∙ rw hit refl in
      let apart : RowNumbersDiffer (old.now.trees tree) =
      subst RowNumbersDiffer (sym one) (number ∙ ap Int (sym (ap id_in number)), tt, tt) in
      let set = updated (portal_with w.o.checks w.o.terms) sql at name tree columns key primary uniques orders (w.o.checks tree) references
      (w.o.terms tree) (stands w.o.checks w.o.terms) (λ P all. all)
      the_one project_schema (updates.command w.o.checks w.o.terms) (updates.plain w.o.checks w.o.terms)
      (λ was row. no_acts w.o.checks w.o.terms tree (was ∷ []) (row ∷ [])) params r old new h.count w.is apart meets h.runs in
      let done = subst (λ row. Sets tree p row old.now new.now) (cast w.o.checks w.o.terms) set in
      record { schema_is = done.schema_is; rows = done.rows ∙ ap (put_row made) left; others = done.others; sound = done.sound }

-- the row of `portal` with a version, and that of `second`
pub portal_added : {S : Type 0} (g : Ghosts S) (version : ℕ)
    → AddsBy g (codes "INSERT INTO portal (version, phase, office) VALUES (?1, 0, ?2)") 1 portal_tree
    (λ office. Int (pos version) ∷ Text office ∷ []) (portal_cells (pos version) (pos 0))
unfolding understood everything
portal_added g version = rows_added 0 _ 0 _ _ _ _ _ _ (λ checks more. refl) g (λ office. Int (pos version) ∷ Text office ∷ [])
    (portal_cells (pos version) (pos 0))
    (λ checks more office. rw (cast_null, cast_int (pos version), cast_int (pos 0)) refl) 1 _
    (lit Null ∷ lit Null ∷ param 0 ∷ lit (Int (pos 0)) ∷ param 1 ∷ []) 5
    (record { command = λ checks more. refl; plain = λ checks more. (refl, refl) }) (by_one (λ office more. refl))

pub second_added : {S : Type 0} (g : Ghosts S)
    → AddsBy {R = ⊤} g (codes "INSERT INTO second (phase) VALUES (0)") 1 second_tree (λ _. []) (λ _. second_cells (pos 0))
unfolding understood everything
second_added g = rows_added 6 _ 15 _ _ _ _ _ _ (λ checks more. refl) g (λ _. []) (λ _. second_cells (pos 0))
    (λ checks more none. rw (cast_null, cast_int (pos 0)) refl) 1 _ (lit Null ∷ lit Null ∷ lit (Int (pos 0)) ∷ []) 3
    (record { command = λ checks more. refl; plain = λ checks more. (refl, refl) }) (by_one (λ none more. refl))

abbrev lecturer_terms : ℕ → List Term
lecturer_terms n = lit Null ∷ param n ∷ param (n + 1) ∷ param (n + 2) ∷ param (n + 3) ∷ lit (Int (pos 0)) ∷ []

pub lecturer_one : Inserts (codes "INSERT INTO lecturer (key, name, code, capacity, ranked) VALUES (?1, ?2, ?3, ?4, 0)") 1
    (lecturer_terms 0) 6
unfolding understood everything
lecturer_one = record { command = λ checks more. refl; plain = λ checks more. (refl, refl) }

pub lecturer_eight : Inserts (codes "INSERT INTO lecturer (key, name, code, capacity, ranked) VALUES (?1, ?2, ?3, ?4, 0), (?5, ?6, ?7, ?8, 0), (?9, ?10, ?11, ?12, 0), (?13, ?14, ?15, ?16, 0), (?17, ?18, ?19, ?20, 0), (?21, ?22, ?23, ?24, 0), (?25, ?26, ?27, ?28, 0), (?29, ?30, ?31, ?32, 0)") 1 (flat_map lecturer_terms (0 ∷ 4 ∷ 8 ∷ 12 ∷ 16 ∷ 20 ∷ 24 ∷ 28 ∷ [])) 6
unfolding understood everything
lecturer_eight = record { command = λ checks more. refl; plain = λ checks more. (refl, refl) }

pub lecturers_added : {S : Type 0} (g : Ghosts S) (count : ℕ) (sql : List ℕ) (terms : List Term) → Inserts sql 1 terms 6
    → GivesTo lecturer_values lecturer_new count 6 terms → AddsBy g sql count lecturer_tree lecturer_values lecturer_new
lecturers_added g count sql terms = rows_added 1 _ 1 _ _ _ _ _ _ (λ checks more. refl) g lecturer_values lecturer_new
    (λ checks more r. rw (cast_null, cast_int (pos r.capacity), cast_int (pos 0)) refl) count sql terms 6

abbrev project_terms : ℕ → List Term
project_terms n = lit Null ∷ param n ∷ param (n + 1) ∷ param (n + 2) ∷ param (n + 3) ∷ []

pub project_one : Inserts (codes "INSERT INTO project (key, lecturer, title, capacity) VALUES (?1, ?2, ?3, ?4)") 2 (project_terms 0) 5
unfolding understood everything
project_one = record { command = λ checks more. refl; plain = λ checks more. (refl, refl) }

pub project_eight : Inserts (codes "INSERT INTO project (key, lecturer, title, capacity) VALUES (?1, ?2, ?3, ?4), (?5, ?6, ?7, ?8), (?9, ?10, ?11, ?12), (?13, ?14, ?15, ?16), (?17, ?18, ?19, ?20), (?21, ?22, ?23, ?24), (?25, ?26, ?27, ?28), (?29, ?30, ?31, ?32)") 2 (flat_map project_terms (0 ∷ 4 ∷ 8 ∷ 12 ∷ 16 ∷ 20 ∷ 24 ∷ 28 ∷ [])) 5
unfolding understood everything
project_eight = record { command = λ checks more. refl; plain = λ checks more. (refl, refl) }

pub projects_added : {S : Type 0} (g : Ghosts S) (count : ℕ) (sql : List ℕ) (terms : List Term) → Inserts sql 2 terms 5
    → GivesTo project_new project_new count 5 terms → AddsBy g sql count project_tree project_new project_new
projects_added g count sql terms = rows_added 2 _ 4 _ _ _ _ _ _ (λ checks more. refl) g project_new project_new
    (λ checks more r. rw (cast_null, cast_int (pos r.capacity)) refl) count sql terms 5

abbrev student_terms : ℕ → List Term
student_terms n = lit Null ∷ param n ∷ param (n + 1) ∷ param (n + 2) ∷ lit Null ∷ []

pub student_one : Inserts (codes "INSERT INTO student (key, name, code) VALUES (?1, ?2, ?3)") 3 (student_terms 0) 5
unfolding understood everything
student_one = record { command = λ checks more. refl; plain = λ checks more. (refl, refl) }

pub student_eight : Inserts (codes "INSERT INTO student (key, name, code) VALUES (?1, ?2, ?3), (?4, ?5, ?6), (?7, ?8, ?9), (?10, ?11, ?12), (?13, ?14, ?15), (?16, ?17, ?18), (?19, ?20, ?21), (?22, ?23, ?24)") 3 (flat_map student_terms (0 ∷ 3 ∷ 6 ∷ 9 ∷ 12 ∷ 15 ∷ 18 ∷ 21 ∷ [])) 5
unfolding understood everything
student_eight = record { command = λ checks more. refl; plain = λ checks more. (refl, refl) }

pub students_added : {S : Type 0} (g : Ghosts S) (count : ℕ) (sql : List ℕ) (terms : List Term) → Inserts sql 3 terms 5
    → GivesTo student_values student_new count 5 terms → AddsBy g sql count student_tree student_values student_new
students_added g count sql terms = rows_added 3 _ 6 _ _ _ _ _ _ (λ checks more. refl) g student_values student_new
    (λ checks more r. rw (cast_null) refl) count sql terms 5

-- the tables of lists, whichever it is
stands : (l : Lists) → StandsAt (place_among l) (list_table (names l) (tree_of l))
stands (Choices First) checks more = refl
stands (Rankings First) checks more = refl
stands _ checks more = refl

abbrev place_terms : ℕ → List Term
place_terms n = lit Null ∷ param n ∷ param (n + 1) ∷ param (n + 2) ∷ []

pub add_is : (l : Lists) → Inserts (add_text (names l)) (place_among l) (place_terms 0) 4
unfolding understood everything
add_is (Choices First) = record { command = λ checks more. refl; plain = λ checks more. (refl, refl) }
add_is (Rankings First) = record { command = λ checks more. refl; plain = λ checks more. (refl, refl) }
add_is _ = record { command = λ checks more. refl; plain = λ checks more. (refl, refl) }

pub add_eight_is : (l : Lists)
    → Inserts (add_eight_text (names l)) (place_among l) (flat_map place_terms (0 ∷ 3 ∷ 6 ∷ 9 ∷ 12 ∷ 15 ∷ 18 ∷ 21 ∷ [])) 4
unfolding understood everything
add_eight_is (Choices First) = record { command = λ checks more. refl; plain = λ checks more. (refl, refl) }
add_eight_is (Rankings First) = record { command = λ checks more. refl; plain = λ checks more. (refl, refl) }
add_eight_is _ = record { command = λ checks more. refl; plain = λ checks more. (refl, refl) }

pub places_added : (l : Lists) {S : Type 0} (g : Ghosts S) (count : ℕ) (sql : List ℕ) (terms : List Term)
    → Inserts sql (place_among l) terms 4 → GivesTo place_new place_new count 4 terms
    → AddsBy g sql count (tree_of l) place_new place_new
places_added l g count sql terms = rows_added (place_among l) _ (tree_of l) _ _ _ _ _ _ (stands l) g place_new place_new
    (λ checks more r. rw (cast_null, cast_int (pos r.place)) refl) count sql terms 4

clear_is : (l : Lists) → Deletes (clear_text (names l)) (place_among l) (tree_of l) (has_key 1)
unfolding understood everything
clear_is (Choices First) = record { command = λ checks more. refl; plain = λ checks more. (refl, refl) }
clear_is (Rankings First) = record { command = λ checks more. refl; plain = λ checks more. (refl, refl) }
clear_is _ = record { command = λ checks more. refl; plain = λ checks more. (refl, refl) }

pub list_cleared : (l : Lists) (old new : State) (owner : List ℕ) → Ran (clear_text (names l)) (Text owner ∷ []) old new
    → Made (Clears (tree_of l) owner) old new
list_cleared l = cleared (place_among l) _ (tree_of l) _ _ _ _ _ _ (stands l) (clear_text (names l)) (clear_is l)

-- who has a ranking in the second round
pub rank_cleared : (old new : State) (owner : List ℕ)
    → Ran (codes "DELETE FROM ranked2 WHERE lecturer = ?1") (Text owner ∷ []) old new
    → Made (Clears ranked2_tree owner) old new
unfolding understood everything
rank_cleared = cleared 8 _ 19 _ _ _ _ _ _ (λ checks more. refl) (codes "DELETE FROM ranked2 WHERE lecturer = ?1")
    (record { command = λ checks more. refl; plain = λ checks more. (refl, refl) })

pub rank_added : {S : Type 0} (g : Ghosts S)
    → AddsBy g (codes "INSERT INTO ranked2 (lecturer) VALUES (?1)") 1 ranked2_tree (λ k. Text k ∷ []) (λ k. Text k ∷ [])
unfolding understood everything
rank_added g = rows_added 8 _ 19 _ _ _ _ _ _ (λ checks more. refl) g (λ k. Text k ∷ []) (λ k. Text k ∷ [])
    (λ checks more k. rw (cast_null) refl) 1 _ (lit Null ∷ param 0 ∷ []) 2
    (record { command = λ checks more. refl; plain = λ checks more. (refl, refl) }) (by_one (λ k more. refl))

-- the result of the second round
pub places_dropped : (old new : State) → Ran (codes "DELETE FROM assigned2") [] old new → IsCurrentSchema old.now.schema
    → RowNumbersDiffer (old.now.trees assigned2_tree) → Drops assigned2_tree every old.now new.now
unfolding understood everything
places_dropped = dropped 10 _ 24 _ _ _ _ _ _ (λ checks more. refl) (codes "DELETE FROM assigned2") []
    (record { command = λ checks more. refl; plain = λ checks more. (refl, refl) }) []

abbrev pair_terms : ℕ → List Term
pair_terms n = lit Null ∷ param n ∷ param (n + 1) ∷ []

pub pair_one : Inserts (codes "INSERT INTO assigned2 (student, project) VALUES (?1, ?2)") 10 (pair_terms 0) 3
unfolding understood everything
pair_one = record { command = λ checks more. refl; plain = λ checks more. (refl, refl) }

pub pair_eight : Inserts (codes "INSERT INTO assigned2 (student, project) VALUES (?1, ?2), (?3, ?4), (?5, ?6), (?7, ?8), (?9, ?10), (?11, ?12), (?13, ?14), (?15, ?16)") 10 (flat_map pair_terms (0 ∷ 2 ∷ 4 ∷ 6 ∷ 8 ∷ 10 ∷ 12 ∷ 14 ∷ [])) 3
unfolding understood everything
pair_eight = record { command = λ checks more. refl; plain = λ checks more. (refl, refl) }

pub pairs_added : {S : Type 0} (g : Ghosts S) (count : ℕ) (sql : List ℕ) (terms : List Term) → Inserts sql 10 terms 3
    → GivesTo pair_new pair_new count 3 terms → AddsBy g sql count assigned2_tree pair_new pair_new
pairs_added g count sql terms = rows_added 10 _ 24 _ _ _ _ _ _ (λ checks more. refl) g pair_new pair_new
    (λ checks more p. rw (cast_null) refl) count sql terms 3

abbrev pub update_ranked : List ℕ
update_ranked = codes "UPDATE lecturer SET ranked = 1 WHERE key = ?1"

pub lecturer_ranked : (old new : State) (key : List ℕ) → Ran update_ranked (Text key ∷ []) old new
    → Made (MarksRanked key) old new
unfolding understood everything
lecturer_ranked old new key h = record {
  shown = h.shown;
  changed = λ own apart number name code capacity ranked one.
      let w = own_is Second old.now.schema own in
      let s = portal_with w.o.checks w.o.terms in
      let r = Int number ∷ lecturer_cells key name code capacity ranked in
      let set = updated s update_ranked 1 _ 1 _ _ _ _ _ _ _ _ refl (λ P all. all) (has_key 1)
      (col 1 0 ∷ col 1 1 ∷ col 1 2 ∷ col 1 3 ∷ col 1 4 ∷ lit (Int (pos 1)) ∷ []) refl (refl, refl) (λ was row. refl)
      (Text key ∷ []) r old new h.count w.is apart (ap (λ p. filter p (old.now.trees 1)) (same_key 1 key) ∙ one) h.runs in
      subst₂ (λ p row. Sets 1 p row old.now new.now) (same_key 1 key) (rw (cast_int number, cast_int capacity, cast_int (pos 1)) refl) set;
}

pub phase_moved : (round : Round) (old new : State) (phase : ℕ) → Ran (phase_text round) (Int (pos phase) ∷ []) old new
    → Made (MovesTo round phase) old new
unfolding understood everything
phase_moved First old new phase h = record {
  shown = h.shown;
  changed = λ own version was office. one_changed 0 _ 0 _ _ _ _ _ _ (λ checks more. refl) _
      (col 1 0 ∷ lit Null ∷ col 1 2 ∷ param 0 ∷ col 1 4 ∷ [])
      (record { command = λ checks more. refl; plain = λ checks more. (refl, refl) }) (Int (pos phase) ∷ [])
      (portal_row version was office) _ refl refl
      (λ checks more. rw (cast_int (pos 1), cast_null, cast_int version, cast_int (pos phase)) refl) old new h own;
}
phase_moved Second old new phase h = record {
  shown = h.shown;
  changed = λ own was. one_changed 6 _ 15 _ _ _ _ _ _ (λ checks more. refl) _ (col 1 0 ∷ lit Null ∷ param 0 ∷ [])
      (record { command = λ checks more. refl; plain = λ checks more. (refl, refl) }) (Int (pos phase) ∷ []) (second_row was) _ refl refl
      (λ checks more. rw (cast_int (pos 1), cast_null, cast_int (pos phase)) refl) old new h own;
}

pub version_set : (old new : State) (version : ℕ)
    → Ran (codes "UPDATE portal SET version = ?1 WHERE id = 1") (Int (pos version) ∷ []) old new
    → Made (IsOfVersion version) old new
unfolding understood everything
version_set old new version h = record {
  shown = h.shown;
  changed = λ own was phase office. one_changed 0 _ 0 _ _ _ _ _ _ (λ checks more. refl) _
      (col 1 0 ∷ lit Null ∷ param 0 ∷ col 1 3 ∷ col 1 4 ∷ [])
      (record { command = λ checks more. refl; plain = λ checks more. (refl, refl) }) (Int (pos version) ∷ [])
      (portal_row was phase office) _ refl refl
      (λ checks more. rw (cast_int (pos 1), cast_null, cast_int (pos version), cast_int phase) refl) old new h own;
}
