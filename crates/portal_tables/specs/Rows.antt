-- What the rows of the tables say, and the lists that they hold.
use Rattle.std.specs.Prelude.{◌∷◌, ◌≡◌, if◌then◌else◌, ◌==◌, ◌+◌}
use Rattle.portal_tables.specs.Base.{ℕ, ℤ, pos, List, [], Option, Null, Int, Words, Row, column, bytes, Key, Some, None}
use Rattle.portal_tables.specs.Base.{Value, Bool, false, ⊤, AllByRecursion, is_eq, value_cmp, id_in, rowid, Phase}
use Rattle.portal_tables.specs.Base.{Setup, Choosing, Ranking, Published, map, filter, number_in, put_all, option_map}
use Rattle.portal_tables.specs.Base.{find, Trees, equals}
use Rattle.portal_rules.specs.declared.rows.LecturerRow.{LecturerRow}
use Rattle.portal_rules.specs.declared.rows.ProjectRow.{ProjectRow}
use Rattle.portal_rules.specs.declared.rows.StudentRow.{StudentRow}
use Rattle.portal_tables.specs.Tables.{assigned2_tree}

-- the row of `portal`, of number 1; the number is the id, whose own cell is empty
abbrev pub portal_row : ℤ → ℤ → List ℕ → Row
portal_row version phase office = Int (pos 1) ∷ Null ∷ Int version ∷ Int phase ∷ Words office ∷ []

-- the row of `second`, likewise
abbrev pub second_row : ℤ → Row
second_row phase = Int (pos 1) ∷ Null ∷ Int phase ∷ []

-- the key in a row of a roll
abbrev pub row_key : Row → Key
row_key r = bytes (column r 1)

-- what the cells of a row of a roll say, where the key stands in this column
abbrev pub lecturer_at : ℕ → Row → LecturerRow
lecturer_at n r = record {
  key = bytes (column r n);
  name = bytes (column r (n + 1));
  code = bytes (column r (n + 2));
  capacity = number_in (column r (n + 3));
}

abbrev pub project_at : ℕ → Row → ProjectRow
project_at n r = record {
  key = bytes (column r n);
  lecturer = bytes (column r (n + 1));
  title = bytes (column r (n + 2));
  capacity = number_in (column r (n + 3));
}

abbrev pub student_at : ℕ → Row → StudentRow
student_at n r = record { key = bytes (column r n); name = bytes (column r (n + 1)); code = bytes (column r (n + 2)) }

-- the text in a cell, or none for NULL; any other value counts as the empty text
abbrev pub text_or_none : Value → Option Key
text_or_none Null = None
text_or_none (Words t) = Some t
text_or_none _ = Some []

-- each row has a number, and the numbers differ
abbrev pub RowNumbersDiffer : List Row → Type 0
RowNumbersDiffer [] = ⊤
RowNumbersDiffer (r ∷ rs) =
    (rowid r ≡ Int (id_in (rowid r))) × AllByRecursion (λ s. is_eq (value_cmp (rowid r) (rowid s)) ≡ false) rs
    × RowNumbersDiffer rs

-- column `at` holds exactly this text
abbrev pub has_text : ℕ → List ℕ → Row → Bool
has_text at t r = is_eq (value_cmp (column r at) (Words t))

-- the number that stands for a phase
abbrev pub number_of_phase : Phase → ℕ
number_of_phase Setup = 0
number_of_phase Choosing = 1
number_of_phase Ranking = 2
number_of_phase Published = 3

-- the phase of a number; any other number is setup
abbrev pub phase_numbered : ℕ → Phase
phase_numbered n = if n == 1 then Choosing else (if n == 2 then Ranking else (if n == 3 then Published else Setup))

-- the rows are the one row of `portal`, with this schema version
pub record HasOffice (version : ℕ) (rows : List Row) : Type 0 where
  pub phase : Phase
  pub office : Key
  pub is : rows ≡ portal_row (pos version) (pos (number_of_phase phase)) office ∷ []

-- the rows of one owner, by the key in column 1
abbrev pub of_key : Key → List Row → List Row
of_key key = filter (has_text 1 key)

abbrev pub place_of : Row → ℕ
place_of r = number_in (column r 2)

-- the item in the row of a list
abbrev pub named_by : Row → Key
named_by r = bytes (column r 3)

-- the place as a key, by which rows can be sorted
abbrev pub place_key : Row → Key
place_key r = place_of r ∷ []

abbrev pub by_place : List Row → List Row
by_place rows = put_all place_key rows []

-- the list of one owner, from the rows of all owners
abbrev pub chosen : List Row → Key → List Key
chosen rows key = map named_by (by_place (of_key key rows))

-- the numbers are n, n + 1 and so on
abbrev pub CountUp : ℕ → List ℕ → Type 0
CountUp n [] = Unit {0}
CountUp n (m ∷ ms) = (m ≡ n) × CountUp (n + 1) ms

-- the places are 1 to n, each once
abbrev pub IsWhole : List Row → Type 0
IsWhole rows = CountUp 1 (map place_of (by_place rows))

-- the project in the second round of the student with this key, by the row of `assigned2`
abbrev pub second_placement : Trees → Key → Option Key
second_placement db k = option_map (λ a. bytes (column a 2)) (find (λ a. equals (row_key a) k) (db assigned2_tree))
