-- Names from below that the definitions use.
pub use Rattle.portal_rules.specs.Words.{Key, equals, put_all}
pub use Rattle.portal_rules.specs.declared.phase.Phase.{Phase}
pub use Rattle.portal_rules.specs.declared.phase.Phase.TheVariants.{Choosing, Published, Ranking, Setup}
pub use Rattle.portal_rules.specs.declared.phase.Round.{Round}
pub use Rattle.portal_rules.specs.declared.phase.Round.TheVariants.{First, Second}
pub use Rattle.sqlite.specs.Change.{created}
pub use Rattle.sqlite.specs.Compile.{table_defined_by}
pub use Rattle.sqlite.specs.Edit.{id_in}
pub use Rattle.sqlite.specs.Effect.{Database, IsDatabase}
pub use Rattle.sqlite.specs.Held.{Held, state}
pub use Rattle.sqlite.specs.Order.{Row, bytes, column, value_cmp}
pub use Rattle.sqlite.specs.Schema.{Schema}
pub use Rattle.sqlite.specs.State.{HasCleanDisk, IsRolledBack, IsUnchanged, State, Survives}
pub use Rattle.sqlite.specs.Store.{Ghosts}
pub use Rattle.sqlite.specs.Table.{Table}
pub use Rattle.sqlite.specs.Tree.{Trees, rowid}
pub use Rattle.sqlite.specs.declared.types.Value.{Value}
pub use Rattle.sqlite.specs.declared.types.Value.TheVariants.{Int, Null, Text as Words}
pub use Rattle.sqlite_schema.specs.Names.{same_name}
pub use Rattle.sqlite_schema.specs.declared.schema.View.{View}
pub use Rattle.sqlite_trees.specs.Objects.{number_in}
pub use Rattle.std.specs.List.{AllByRecursion, AllZip, find, list_any}
pub use Rattle.std.specs.Option.{option_map_or}
pub use Rattle.std.specs.Ordering.{is_eq}
pub use Rattle.std.specs.Prelude.{Bool, IfOk, IsTrue, List, None, OnErr, OnOk, Option, Result, Some, [], bytes_eq}
pub use Rattle.std.specs.Prelude.{codes, drop, false, filter, fold, map, option_map, pos, take, true, ℕ, ℤ, ⊤}
pub use Rattle.std.specs.Result.{result_ok}
