-- New rows of a roll.
use Rattle.portal_rules.specs.World.{Change}
use Rattle.portal_rules.specs.World as changes
use Rattle.portal_store.specs.declared.changing.add_rows.NewRows.{NewRows}
use Rattle.portal_store.specs.declared.changing.add_rows.NewRows.TheVariants.{Lecturers, Projects, Students}

-- the change of the world that they are
abbrev pub with_rows_added : NewRows → Change
with_rows_added (Lecturers rows) = changes.Lecturers rows.now
with_rows_added (Projects rows) = changes.Projects rows.now
with_rows_added (Students rows) = changes.Students rows.now
