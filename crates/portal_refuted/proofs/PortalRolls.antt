-- Refutes readers of rolls that do not look at the header or leave rows out, and an allocation text
-- that fills an empty field or lacks its last student.
use Rattle.std.proofs.Common.{◌≡◌, ℕ, zero, suc, ◌<◌, List, [], ◌∷◌, ◌++◌, length, Ok, Err, refl, ap, ◌∙◌, sym, arith, true}
use Rattle.std.specs.Prelude.{codes, Result}
use Rattle.std.specs.Str.{IsAscii, is_utf8}
use Rattle.std.proofs.lemmas.Str.{IsUtf8-from_ascii, is_utf8-from_IsUtf8}
use Rattle.portal_rolls.specs.Lines.{project_format}
use Rattle.portal_rolls.specs.Reading.{Record, lines_of}
use Rattle.portal_rolls.specs.Views.{Gives}
use Rattle.portal_rolls.specs.declared.fault.RollFault.{RollFault}
use Rattle.portal_rolls.specs.declared.fault.RollFault.TheVariants.{BadHeader, NoHeader, TooMany}
use Rattle.portal_rules.specs.Bodies.{csv_text}
use Rattle.portal_rules.specs.View.{office_sees}
use Rattle.portal_rules.specs.declared.rows.ProjectRow.{ProjectRow}
use Rattle.portal_rules.specs.examples.Worked.{worked}

-- a text of one ASCII letter
letter : (b : ℕ) → b < 128 → is_utf8 (b ∷ []) ≡ true
letter b low = is_utf8-from_IsUtf8 (b ∷ []) (IsUtf8-from_ascii (b ∷ []) ascii)
  where
    ascii : IsAscii (b ∷ [])
    ascii zero = low
    ascii (suc k) = omega arith

-- ---- rolls; the reader's rows are taken as they are

abbrev same : List ProjectRow → List ProjectRow
same rows = rows

abbrev wrong_header : List Record
wrong_header = (codes "id" ∷ codes "title" ∷ []) ∷ []

pub header_that_is_not_looked_at_is_refuted : (rows : List ProjectRow)
    → Gives same (Ok rows) (lines_of project_format wrong_header) → ⊥
header_that_is_not_looked_at_is_refuted rows gives = cc gives

pub wrong_header_is_told : Gives same (Err BadHeader) (lines_of project_format wrong_header)
wrong_header_is_told = refl

pub other_fault_of_a_header_is_refuted : Gives same (Err NoHeader) (lines_of project_format wrong_header) → ⊥
other_fault_of_a_header_is_refuted gives = cc gives

-- two projects
abbrev two : List Record
two =
    project_format.header ∷ (codes "K" ∷ codes "L" ∷ codes "K" ∷ codes "1" ∷ [])
    ∷ (codes "T" ∷ codes "L" ∷ codes "T" ∷ codes "1" ∷ []) ∷ []

abbrev kites : ProjectRow
kites = record { key = codes "K"; lecturer = codes "L"; title = codes "K"; capacity = 1 }

abbrev tides : ProjectRow
tides = record { key = codes "T"; lecturer = codes "L"; title = codes "T"; capacity = 1 }

pub both_rows_are_read : Gives same (Ok (kites ∷ tides ∷ [])) (lines_of project_format two)
both_rows_are_read =
    rw (letter 75 (omega arith), letter 76 (omega arith), letter 84 (omega arith), letter 49 (omega arith)) refl

row_count : Result (List ProjectRow) RollFault → ℕ
row_count (Ok rows) = length rows
row_count (Err fault) = 0

pub last_row_left_out_is_refuted : Gives same (Ok (kites ∷ [])) (lines_of project_format two) → ⊥
unfolding row_count
last_row_left_out_is_refuted gives = omega (arith, ap row_count (sym gives ∙ both_rows_are_read))

pub no_row_read_is_refuted : Gives same (Ok []) (lines_of project_format two) → ⊥
unfolding row_count
no_row_read_is_refuted gives = omega (arith, ap row_count (sym gives ∙ both_rows_are_read))

pub fault_of_a_right_roll_is_refuted : Gives same (Err TooMany) (lines_of project_format two) → ⊥
unfolding row_count
fault_of_a_right_roll_is_refuted gives = omega (arith, ap row_count (sym gives ∙ both_rows_are_read))

-- ---- the allocation

-- up to the student without a project
abbrev begun : List ℕ
begun = codes "student,name,project,title,lecturer\nS1,Ann,P2,Kites,L1\nS2,\"Roe, Bea\",P1,Tides,L1\n"

pub unassigned_student_with_a_project_is_refuted : begun ++ codes "S3,Cyr,-,,\n" ≡ csv_text (office_sees worked) → ⊥
unassigned_student_with_a_project_is_refuted says = omega (arith, ap (λ (t : List ℕ). length t) says)

pub allocation_without_its_last_student_is_refuted : begun ≡ csv_text (office_sees worked) → ⊥
allocation_without_its_last_student_is_refuted says = omega (arith, ap (λ (t : List ℕ). length t) says)

pub empty_allocation_is_refuted : [] ≡ csv_text (office_sees worked) → ⊥
empty_allocation_is_refuted says = omega (arith, ap (λ (t : List ℕ). length t) says)

pub allocation_of_the_example : begun ++ codes "S3,Cyr,,,\n" ≡ csv_text (office_sees worked)
allocation_of_the_example = refl
