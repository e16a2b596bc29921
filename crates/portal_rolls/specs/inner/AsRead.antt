-- Fields and rows as the code reads them, without where they lie in memory.
use Rattle.std.specs.Prelude.{ℕ, List, [], ◌∷◌, map, Vec, Bool, Option, Some, None, Result, Ok, if◌then◌else◌}
use Rattle.std.specs.Borrow.{Bor}
use Rattle.spa_rows.specs.Lines.{Text}
use Rattle.portal_rolls.specs.Lines as spec
use Rattle.portal_rolls.specs.Reading.{Record, unless}
use Rattle.portal_rolls.specs.declared.line.File.{File}
use Rattle.portal_rolls.specs.declared.fault.RollFault.{RollFault}
use Rattle.portal_rolls.specs.declared.fault.RollFault.TheVariants as fault
use Rattle.portal_rolls.specs.Lines.{is_number, digits_value, is_capacity}

abbrev pub text_views : {Z : Type 0} → List (Vec ℕ Z) → List Text
text_views vs = map (λ v. v.items) vs

abbrev pub same : {X : Type 0} → X → X
same x = x

abbrev pub file : File → spec.File
file f = record { lecturers = f.lecturers.items; projects = f.projects.items; students = f.students.items; pairs = f.pairs.items }

-- the fields as a record again

abbrev pub four : Bor Text × Bor Text × Bor Text × Bor Text → Record
four f = f.0.now ∷ f.1.now ∷ f.2.now ∷ f.3.now ∷ []

abbrev pub three : Bor Text × Bor Text × Bor Text → Record
three f = f.0.now ∷ f.1.now ∷ f.2.now ∷ []

-- ---- what one field says by itself, for the contracts of the code

abbrev pub capacity_in : Text → Option ℕ
capacity_in text = if is_number text then Some (digits_value text) else None

-- a field that has its form, or the fault of its column
abbrev pub formed : (Text → Bool) → ℕ → ℕ → Text → Result Text RollFault
formed has_form row column field = unless (has_form field) (fault.BadField row column) (Ok field)

abbrev pub limited : ℕ → ℕ → Text → Result ℕ RollFault
limited row column field = unless (is_capacity field) (fault.BadField row column) (Ok (digits_value field))
