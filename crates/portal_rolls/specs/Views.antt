-- The code returns what the definition of reading gives, unless memory runs out.
use Rattle.std.specs.Prelude.{◌≡◌, Result, Ok, Err, List, Vec}
use Rattle.portal_rolls.specs.declared.fault.RollFault.{RollFault}
use Rattle.portal_rolls.specs.declared.fault.RollFault.TheVariants.{Memory}
use Rattle.std.specs.Global.{Global}
use Rattle.spa_rows.specs.Lines.{Rows, Pair}
use Rattle.portal_rolls.specs.Lines as spec

abbrev pub Fails : {Y : Type 0} → RollFault → Result Y RollFault → Type 0
Fails Memory read = Unit {0}
Fails fault read = read ≡ Err fault

abbrev pub Gives : {X Y : Type 0} → (X → Y) → Result X RollFault → Result Y RollFault → Type 0
Gives view (Ok x) read = read ≡ Ok (view x)
Gives view (Err e) read = Fails e read

abbrev pub items : {X : Type 0} → Vec X Global → List X
items v = v.items

-- the rows of an instance and the pairs of a matching, as one file
abbrev pub parts : Rows × Vec Pair Global → spec.File
parts p = record { lecturers = p.0.lecturers; projects = p.0.projects; students = p.0.students; pairs = p.1.items }
