-- Names from below that the definitions and the contracts use, and what a fault refutes.
use Rattle.portal_tables.specs.Reads.{Blames}
use Rattle.portal_tables.specs.declared.fault.TableFault.{TableFault}
pub use Rattle.portal_rules.specs.Good.{IsLecturer, IsProject, IsStudent}
pub use Rattle.portal_rules.specs.Calls.{LecturerSees, StudentSees}
pub use Rattle.portal_rules.specs.View.{listing_with}
pub use Rattle.portal_rules.specs.Words.{Key, Rise, has, equals, put, put_all}
pub use Rattle.portal_rules.specs.World.{is_at, is_from_ranking, is_published}
pub use Rattle.portal_rules.specs.declared.phase.Phase.{Phase}
pub use Rattle.portal_rules.specs.declared.phase.Round.{Round}
pub use Rattle.portal_rules.specs.declared.phase.Round.TheVariants.{First, Second}
pub use Rattle.portal_rules.specs.declared.rows.LecturerRow.{LecturerRow}
pub use Rattle.portal_rules.specs.declared.rows.Listing.{Listing}
pub use Rattle.portal_rules.specs.declared.rows.Person.{Person}
pub use Rattle.portal_rules.specs.declared.rows.ProjectRow.{ProjectRow}
pub use Rattle.portal_rules.specs.declared.rows.StudentRow.{StudentRow}
pub use Rattle.sqlite.specs.Effect.{Database, IsDatabase}
pub use Rattle.sqlite.specs.Held.{state}
pub use Rattle.sqlite.specs.Order.{Row, bytes, column}
pub use Rattle.sqlite.specs.Tree.{Trees}
pub use Rattle.sqlite_trees.specs.Objects.{number_in}
pub use Rattle.std.specs.List.{AllByRecursion, filter_map, find}
pub use Rattle.std.specs.Prelude.{Err, IfOk, IfSome, List, None, OnOk, Option, Some, Vec, [], false, filter, length}
pub use Rattle.std.specs.Prelude.{map, not, option_map}
pub use Rattle.std.specs.declared.alloc.Global.{Global}

-- a fault that blames the rows says that this is not so of the database
abbrev pub Contradicts : (Database → Type 0) → Database → TableFault → Type 0
Contradicts So db fault = Blames fault (So db)
