-- The records of a text, as `csv` reads them, and what the header and the records of a file say.
use Rattle.std.specs.Prelude.{ℕ, List, ◌==◌, ◌&&◌, Bool, true, false, [], ◌∷◌, length, map, Result, Ok, Err, nat_le}
use Rattle.std.specs.Prelude.{if◌then◌else◌}
use Rattle.csv.specs.Reading.{default_config, records, strip_bom}
use Rattle.std.specs.List.{enumerate_from, filter_map, list_all}
use Rattle.std.specs.Result.{result_err, result_ok}
use Rattle.std.specs.Str.{bytes_eq, is_utf8}
use Rattle.portal_rolls.specs.declared.fault.RollFault.{RollFault}
use Rattle.portal_rolls.specs.declared.fault.RollFault.TheVariants as fault

-- a record: the bytes of its fields
abbrev pub Record : Type 0
Record = List (List ℕ)

-- all records of a text, the header included
abbrev pub records_of : List ℕ → List Record
records_of text = records default_config (strip_bom text)

-- what was read if the test passes, otherwise this fault
abbrev pub unless : {A : Type 0} → Bool → RollFault → Result A RollFault → Result A RollFault
unless good e read = if good then read else Err e

-- a kind of file; `limit` counts no header; `says` reads a record of as many fields, all UTF-8
pub record Format (X : Type 0) : Type 0 where
  pub header : Record
  pub limit : ℕ
  pub says : ℕ → Record → Result X RollFault

-- both records have the same fields
abbrev pub same_record : Record → Record → Bool
same_record [] [] = true
same_record (a ∷ r) (b ∷ s) = bytes_eq a b && same_record r s
same_record _ _ = false

-- what record `row` says; its number of fields is checked first, then that each is UTF-8
abbrev pub line_of : {X : Type 0} → Format X → ℕ → Record → Result X RollFault
line_of format row r =
    unless (length r == length format.header) (fault.FieldCount row)
    (unless (list_all is_utf8 r) (fault.NotText row) (format.says row r))

-- the same, but a record past the limit is one too many
abbrev pub reading : {X : Type 0} → Format X → ℕ × Record → Result X RollFault
reading format (row, r) = unless (nat_le row format.limit) fault.TooMany (line_of format row r)

-- what each record says, numbered from 1
abbrev pub readings : {X : Type 0} → Format X → List Record → List (Result X RollFault)
readings format rows = map (reading format) (enumerate_from 1 rows)

-- the first fault, or these lines if there is none
abbrev pub first_or : {X : Type 0} → List RollFault → List X → Result (List X) RollFault
first_or [] lines = Ok lines
first_or (first ∷ later) lines = Err first

-- all lines, or the first fault among them
abbrev pub all_or_first : {X : Type 0} → List (Result X RollFault) → Result (List X) RollFault
all_or_first read = first_or (filter_map result_err read) (filter_map result_ok read)

-- what a file says; its first record has to be the header
abbrev pub lines_of : {X : Type 0} → Format X → List Record → Result (List X) RollFault
lines_of format [] = Err fault.NoHeader
lines_of format (header ∷ rows) =
    unless (same_record format.header header) fault.BadHeader (all_or_first (readings format rows))
