-- A reader that stands before some records of a text.
use Rattle.std.specs.Prelude.{◌≡◌, ◌+◌, ℕ, Bool, true, false, List, [], ◌∷◌, length, Some}
use Rattle.std.specs.Borrow.{Bor}
use Rattle.csv.specs.Reading.{Ready, default_config, is_flexible, reader_config, reader_state, reader_trim}
use Rattle.csv.specs.Reading.{records_from, source_of}
use Rattle.csv.specs.declared.parser.State.{State}
use Rattle.csv.specs.declared.reader.Reader.{Reader}
use Rattle.csv.specs.declared.reader.Trim.TheVariants as trim
use Rattle.portal_rolls.specs.Reading.{Record}

-- the records that are still to come from a state of the machine
abbrev pub rest_of : State → List ℕ → List Record
rest_of s text = records_from default_config (length text + 1) s text

-- a reader of a slice that takes each record as it is, of any length and with no header row
pub record IsSetUp (rdr : Reader (Bor (List ℕ))) : Type 0 where
  pub trim : reader_trim rdr ≡ trim.None
  pub ready : Ready rdr
  pub config : reader_config rdr ≡ default_config
  pub flexible : is_flexible rdr ≡ true

-- the reader has these records left
pub record Has (rdr : Reader (Bor (List ℕ))) (rows : List Record) : Type 0 where
  pub left : List ℕ
  pub source : source_of (λ s. Some s.now) rdr ≡ Some left
  pub rows_are : rows ≡ rest_of (reader_state rdr) left

-- what one read does: it gives the first record that was left and leaves the others, or tells that
-- there was none
abbrev pub TakesRecord : List Record → Bool → Record → Reader (Bor (List ℕ)) → Type 0
TakesRecord [] found fields rdr = found ≡ false
TakesRecord (r ∷ rows) found fields rdr = (found ≡ true) × (fields ≡ r) × Has rdr rows
