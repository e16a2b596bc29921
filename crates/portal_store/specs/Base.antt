-- Names from below that the definitions use.
pub use Rattle.portal_rules.specs.Good.{Good}
pub use Rattle.portal_rules.specs.Words.{has, is_code, Key, put_all}
pub use Rattle.portal_rules.specs.World.{Change, changed, is_setup, Lecturer, lecturer_key, project_key, Student}
pub use Rattle.portal_rules.specs.World.{student_key, World}
pub use Rattle.portal_rules.specs.declared.phase.Phase.{Phase}
pub use Rattle.portal_rules.specs.declared.phase.Phase.TheVariants.{Published, Setup}
pub use Rattle.portal_rules.specs.declared.phase.Round.{Round}
pub use Rattle.portal_rules.specs.declared.phase.Round.TheVariants.{First, Second}
pub use Rattle.portal_tables.specs.Rows.{chosen, HasOffice, IsWhole, lecturer_at, number_of_phase, of_key}
pub use Rattle.portal_tables.specs.Rows.{phase_numbered, project_at, row_key, RowNumbersDiffer, second_placement}
pub use Rattle.portal_tables.specs.Rows.{second_row, student_at, text_or_none}
pub use Rattle.portal_tables.specs.declared.sql.list_table.Lists.TheVariants.{Choices as choice_table, Rankings as ranking_table}
pub use Rattle.portal_tables.specs.Tables.{first_version, HasFirstSchema, IsCurrentSchema, IsFirstSchema}
pub use Rattle.portal_tables.specs.Tables.{later_trees, lecturer_tree, own_trees, portal_tree, project_tree}
pub use Rattle.portal_tables.specs.Tables.{ranked2_tree, second_tree, student_tree, tree_of, version}
pub use Rattle.sqlite.specs.Effect.{Database, IsDatabase}
pub use Rattle.sqlite.specs.Order.{bytes, column, Row}
pub use Rattle.sqlite.specs.Tree.{Trees}
