-- Names from below that the contracts use.
pub use Rattle.portal_tables.specs.Base.{Key, equals, put_all, Phase, Round, First, Second, created, id_in, Database}
pub use Rattle.portal_tables.specs.Base.{IsDatabase, Held, state, Row, bytes, column, value_cmp, Schema, HasCleanDisk}
pub use Rattle.portal_tables.specs.Base.{IsRolledBack, IsUnchanged, State, Survives, Ghosts, Table, Trees, rowid, Value}
pub use Rattle.portal_tables.specs.Base.{Int, Null, Words, number_in, AllByRecursion, AllZip, find, list_any, is_eq}
pub use Rattle.portal_tables.specs.Base.{Bool, IfOk, IsTrue, List, None, OnErr, OnOk, Option, Result, Some, [], codes}
pub use Rattle.portal_tables.specs.Base.{false, filter, map, option_map, pos, take, true, ℕ, ℤ, ⊤}
pub use Rattle.portal_rules.specs.Words.{is_code, is_name, Rise, has, is_before, is_empty, put}
pub use Rattle.portal_rules.specs.Good.{IsLecturer, IsProject, IsStudent}
pub use Rattle.portal_rules.specs.World.{is_published}
pub use Rattle.portal_rules.specs.declared.phase.Phase.{Phase as ThePhase}
pub use Rattle.portal_rules.specs.declared.phase.Round.TheVariants.{Second as InSecond}
pub use Rattle.portal_rules.specs.declared.rows.LecturerRow.{LecturerRow}
pub use Rattle.portal_rules.specs.declared.rows.ProjectRow.{ProjectRow}
pub use Rattle.portal_rules.specs.declared.rows.StudentRow.{StudentRow}
pub use Rattle.spa_rows.specs.Lines.{is_key}
pub use Rattle.sqlite.specs.Collation.TheVariants.{Binary}
pub use Rattle.sqlite.specs.Edit.{is_taken, next_rowid}
pub use Rattle.sqlite.specs.Given.{IsPlain}
pub use Rattle.sqlite.specs.Kind.{Kind}
pub use Rattle.sqlite.specs.Kind.TheVariants.{Integer, Text}
pub use Rattle.sqlite.specs.Listing.{understood}
pub use Rattle.sqlite.specs.Order.{Row as Cells}
pub use Rattle.sqlite.specs.State.{Begins, ExecutesIn, IsLive, KeepsCommit, Shown, Shows}
pub use Rattle.sqlite.specs.Term.{Term, col, lit, op2}
pub use Rattle.sqlite.specs.Tree.{put_row}
pub use Rattle.sqlite.specs.Values.{bound}
pub use Rattle.sqlite.specs.declared.error.Error.{Error}
pub use Rattle.sqlite.specs.declared.error.Error.TheVariants.{SqliteFailure}
pub use Rattle.sqlite.specs.declared.error.ErrorCode.TheVariants.{OutOfMemory}
pub use Rattle.sqlite.specs.declared.transaction.Transaction.{Transaction}
pub use Rattle.sqlite_schema.specs.declared.schema.Action.TheVariants.{NoAction}
pub use Rattle.sqlite_schema.specs.declared.schema.Column.{Column}
pub use Rattle.sqlite_schema.specs.declared.schema.Index.{Index}
pub use Rattle.sqlite_schema.specs.declared.schema.Reference.{Reference}
pub use Rattle.sqlite_sql.specs.Query.{key_cmp}
pub use Rattle.sqlite_sql.specs.declared.ops.BinaryOp.TheVariants.{And, Compare, Or}
pub use Rattle.sqlite_sql.specs.declared.ops.CompareOp.TheVariants.{Eq, Ge, Le}
pub use Rattle.sqlite_value.specs.Keys.{ascending, plain}
pub use Rattle.sqlite_value.specs.Value.{owned}
pub use Rattle.sqlite_value.specs.declared.keys.Order.{Order}
pub use Rattle.std.specs.Cmp.Lexicographic.{slice_cmp}
pub use Rattle.std.specs.List.{filter_map, flat_map}
pub use Rattle.std.specs.List.Sorted.{IsPermutation, IsSorted}
pub use Rattle.std.specs.Ordering.{int_cmp, is_lt, nat_cmp}
pub use Rattle.std.specs.Prelude.{Err, IfNone, IfSome, Ok, Vec, length, not}
pub use Rattle.std.specs.declared.alloc.Global.{Global}
