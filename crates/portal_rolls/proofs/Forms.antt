-- What is read of a roll has its form.
use Rattle.portal_rolls.proofs.Base.{◌≡◌, ◌==◌, ◌+◌, ◌≤◌, ℕ, Bool, true, false, not, List, [], ◌∷◌, length, map, Result}
use Rattle.portal_rolls.proofs.Base.{Ok, Err, IfOk, refl, arith, cons_option, enumerate_from, filter_map, list_all}
use Rattle.portal_rolls.proofs.Base.{position_from, result_ok, is_utf8, nat_tests, is_code, is_name, ProjectRow}
use Rattle.portal_rolls.proofs.Base.{StudentRow, is_key, Text, digits_value, is_capacity, unless_bad, Format, first_or}
use Rattle.portal_rolls.proofs.Base.{line_of, lines_of, reading, unless, Record, RollFault, rules, nat_le}
use Rattle.portal_rolls.proofs.Base.{AllByRecursion, lecturer, project, student, Gives}
use Rattle.spa_rows.specs.Limits.{most_places}
use Rattle.portal_rules.specs.Good.{IsLecturer, IsProject, IsStudent}
use Rattle.portal_rules.specs.declared.rows.LecturerRow.{LecturerRow}
use Rattle.portal_rolls.specs.declared.fault.RollFault.TheVariants as fault

passed : {A : Type 0} (b : Bool) (e : RollFault) (r : Result A RollFault) (x : A) → unless b e r ≡ Ok x → r ≡ Ok x
passed true e r x h = h
passed false e r x h = absurd (cc h)

module _ {X : Type 0} (format : Format X) (P : X → Type 0) (each : (row : ℕ) (r : Record) (x : X) → format.says row r ≡ Ok x → P x) where
  all_from : (row : ℕ) (rows : List Record)
      → AllByRecursion P (filter_map result_ok (map (reading format) (enumerate_from row rows)))
  all_from row [] = tt
  all_from row (r ∷ rows) = go (reading format (row, r)) refl (all_from (row + 1) rows)
    where
      go : (read : Result X RollFault) → reading format (row, r) ≡ read
          → AllByRecursion P (filter_map result_ok (map (reading format) (enumerate_from (row + 1) rows)))
          → AllByRecursion P (cons_option (result_ok read) (filter_map result_ok (map (reading format) (enumerate_from (row + 1) rows))))
      go (Ok x) e later =
          let line = passed (nat_le row format.limit) fault.TooMany (line_of format row r) x e in
          let text = passed (length r == length format.header) (fault.FieldCount row)
          (unless (list_all is_utf8 r) (fault.NotText row) (format.says row r)) x line in
          (each row r x (passed (list_all is_utf8 r) (fault.NotText row) (format.says row r) x text), later)
      go (Err first) e later = later

  no_fault : (faults : List RollFault) (lines xs : List X) → first_or faults lines ≡ Ok xs → lines ≡ xs
  no_fault [] lines xs e = cc e
  no_fault (first ∷ later) lines xs e = absurd (cc e)

  pub all_read : (rows : List Record) (xs : List X) → lines_of format rows ≡ Ok xs → AllByRecursion P xs
  all_read [] xs e = absurd (cc e)
  all_read (r ∷ rows) xs e = search (rules, no_fault, passed, all_from)

abbrev AreTrue : List Bool → Type 0
AreTrue [] = Unit {0}
AreTrue (b ∷ bs) = (b ≡ true) × AreTrue bs

-- a row that is read has the form of each column
columns_form : {X : Type 0} (row column : ℕ) (forms : List Bool) (line x : X)
    → unless_bad row (position_from not column forms) line ≡ Ok x → AreTrue forms × (line ≡ x)
columns_form row column [] line x e = (tt, cc e)
columns_form row column (true ∷ forms) line x e = let rest = columns_form row (column + 1) forms line x e in ((refl, rest.0), rest.1)
columns_form row column (false ∷ forms) line x e = absurd (cc e)

capacity_form : (field : Text) → is_capacity field ≡ true → (1 ≤ digits_value field) × (digits_value field ≤ most_places)
capacity_form field e = (grind (arith, nat_tests), grind (arith, nat_tests))

pub student_form : (row : ℕ) (r : Record) (x : StudentRow) → student row r ≡ Ok x → IsStudent x
student_form row (key ∷ name ∷ code ∷ []) x e = search (rules, columns_form)
student_form row _ x e = absurd (cc e)

pub lecturer_form : (row : ℕ) (r : Record) (x : LecturerRow) → lecturer row r ≡ Ok x → IsLecturer x
lecturer_form row (key ∷ name ∷ code ∷ capacity ∷ []) x e =
    let (forms, is) = columns_form row 1 (is_key key ∷ is_name name ∷ is_code code ∷ is_capacity capacity ∷ [])
    (record { key = key; name = name; code = code; capacity = digits_value capacity }) x e in
    let bounds = capacity_form capacity forms.1.1.1.0 in
    rw (← is) (record { key = forms.0; name = forms.1.0; code = forms.1.1.0; low = bounds.0; high = bounds.1 })
lecturer_form row _ x e = absurd (cc e)

pub project_form : (row : ℕ) (r : Record) (x : ProjectRow) → project row r ≡ Ok x → IsProject x
project_form row (key ∷ lecturer ∷ title ∷ capacity ∷ []) x e =
    let (forms, is) = columns_form row 1 (is_key key ∷ is_key lecturer ∷ is_name title ∷ is_capacity capacity ∷ [])
    (record { key = key; lecturer = lecturer; title = title; capacity = digits_value capacity }) x e in
    let bounds = capacity_form capacity forms.1.1.1.0 in
    rw (← is) (record { key = forms.0; lecturer = forms.1.0; title = forms.1.1.0; low = bounds.0; high = bounds.1 })
project_form row _ x e = absurd (cc e)

-- what a call gave, where it gave rows
pub given : {X Y : Type 0} (view : X → List Y) (format : Format Y) (P : Y → Type 0)
    → ((row : ℕ) (r : Record) (y : Y) → format.says row r ≡ Ok y → P y)
    → (rows : List Record) (result : Result X RollFault) → Gives view result (lines_of format rows)
    → IfOk result (λ x. AllByRecursion P (view x))
given view format P each rows (Ok x) h = all_read format P each rows (view x) h
given view format P each rows (Err e) h = tt
