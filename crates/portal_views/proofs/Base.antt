-- Names from below that the proofs use.
unfoldable pub use Rattle.sqlite.specs.Ops.{binary}
unfoldable pub use Rattle.sqlite.specs.Order.{value_cmp}
unfoldable pub use Rattle.sqlite_tied.specs.Compute.{everything}
unfoldable pub use Rattle.std.specs.List.{IsDistinct}
pub use Rattle.std.proofs.Common.{ap, ap₂, cond, drop, inl, inr, refl, subst, sym, ◌∙◌, arith, pos, rules, negsuc}
pub use Rattle.std.proofs.Math.Bool.{and_comm, or-true}
pub use Rattle.std.proofs.Math.Path.{subst₃}
pub use Rattle.std.proofs.lemmas.Bool.{and_parts, cases_Bool, or_parts}
pub use Rattle.std.proofs.lemmas.Grind.{common_steps}
pub use Rattle.std.proofs.lemmas.List.{append-nil, at_drop_all, map-append, map-id, length-map}
pub use Rattle.std.proofs.lemmas.List.Sorted.{list_any-IsPermutation, length_permutation, IsPermutation-sym}
pub use Rattle.std.proofs.lemmas.Result.{IfOk-weaker, MatchResult-weaker}
pub use Rattle.std.specs.List.{list_any, cons_option}
pub use Rattle.std.specs.List.Sorted.{IsPermutation}
pub use Rattle.std.specs.Ordering.{is_eq, is_ne}
pub use Rattle.std.specs.Prelude.{Bool, Ok, Result, take, true, ℕ, ℤ, if◌then◌else◌, is_none, ◌&&◌, ◌++◌, ◌||◌, ◌∷◌}
pub use Rattle.std.specs.Prelude.{◌≡◌, ◌≤◌, is_some, ◌+◌}
pub use Rattle.std.specs.Result.{IsErrAnd}
pub use Rattle.std.specs.declared.cmp.Ordering.{Ordering}
pub use Rattle.std.specs.declared.cmp.Ordering.TheVariants.{Equal}
pub use Rattle.portal_rules.proofs.AllLaws.{all_map, all_weaker, any_map, filtered_any, is_sym, any_nowhere}
pub use Rattle.portal_rules.proofs.Fills.{before_other, rise_kept}
pub use Rattle.portal_rules.proofs.Keys.{all_unmap, is_own, is_same}
pub use Rattle.portal_rules.specs.Words.{is_before, put_all, is_empty}
pub use Rattle.portal_rules.specs.inner.Room.{lecturer_left, project_left}
pub use Rattle.portal_rules.specs.inner.Offers.{name_of, offered}
pub use Rattle.portal_tables.proofs.InTurn.{at_item, both, judged, next_given, next_item, reads_as, reads_both}
pub use Rattle.portal_tables.proofs.InTurn.{reads_handed, reads_more, reads_of, reads_open, reads_self, reads_short}
pub use Rattle.portal_tables.proofs.InTurn.{reads_then, reads_then_of}
pub use Rattle.portal_tables.proofs.Listed.{IsText, permuted, roll_shown, roll_rises}
pub use Rattle.portal_tables.proofs.Lists.{any_alike, filter_all, not_true, eq_self, apart_filter}
pub use Rattle.portal_tables.proofs.OneFound.{filter_alike, found}
pub use Rattle.portal_tables.proofs.Owned.{has_round, round_own, current_own}
pub use Rattle.portal_tables.proofs.Parents.{OnRoll, owners_of, place_parents, Found, on_roll, none_of, text_there}
pub use Rattle.portal_tables.proofs.Shapes.{Follows, IsPlace, IsStudentRow, followed, has_text_of, kept}
pub use Rattle.portal_tables.proofs.Shapes.{project_rows_formed, student_rows_formed, student_test, place_rows_formed}
pub use Rattle.portal_tables.proofs.Shapes.{form_of, text_equals}
pub use Rattle.portal_tables.proofs.Sorted.{all_permuted, all_two, permutes, rise_put_all, at, has_of, one_order}
pub use Rattle.portal_tables.proofs.Sorted.{map_alike_on, map_twice, in_order, put_all_more}
pub use Rattle.portal_tables.proofs.Tests.{equals_text, equals_int}
pub use Rattle.portal_tables.proofs.Texts.{key_texts}
pub use Rattle.portal_tables.proofs.Weak.{Open, own_is, schema_with, with_checks}
pub use Rattle.portal_tables.specs.Rows.{RowNumbersDiffer, has_text, row_key, by_place, chosen, named_by, of_key}
pub use Rattle.portal_tables.specs.Rows.{place_key, IsWhole, CountUp, place_of}
pub use Rattle.portal_tables.specs.Tables.{tree_of, assigned2_tree, lecturer_tree}
pub use Rattle.portal_tables.specs.Tables.{project_tree, student_tree, IsCurrentSchema, HasFirstSchema}
pub use Rattle.portal_tables.specs.declared.fault.TableFault.{TableFault}
pub use Rattle.portal_tables.specs.declared.sql.list_table.Lists.{Lists}
pub use Rattle.portal_tables.specs.declared.sql.list_table.Lists.TheVariants.{Choices, Rankings}
pub use Rattle.portal_tables.specs.declared.sql.select.RollTable.{RollTable}
pub use Rattle.portal_tables.specs.declared.sql.select.RollTable.TheVariants.{Lecturers, Projects, Students}
pub use Rattle.portal_tables.specs.declared.sql.select.Table.TheVariants.{OfLists, OfPlaces, OfRoll}
pub use Rattle.portal_tables.specs.inner.Changes.{ListsBy, columns, every, has_number}
pub use Rattle.portal_tables.specs.inner.Decoding.{ShowsAs, FindsAny}
pub use Rattle.portal_tables.specs.inner.Owners.{AreOwned, choice_shown, has_list}
pub use Rattle.portal_tables.specs.inner.Placements.{HasPlacement, HasPlacementAsked, HasSecondPlace, placement_before}
pub use Rattle.portal_tables.specs.inner.Placements.{HasFirstPlace, first_pairs}
pub use Rattle.portal_tables.specs.inner.Queries.{columns_of, roll_tree}
pub use Rattle.portal_tables.specs.Reads.{MayRead, Always, Reading, Gives, HasRound}
pub use Rattle.portal_tables.specs.inner.Rolls.{by_key, lecturers_shown, projects_shown, roll_columns, students_shown}
pub use Rattle.portal_tables.specs.inner.Rolls.{RollRises}
pub use Rattle.portal_tables.specs.inner.Shown.{first_cell, shown_lecturer, shown_project, shown_student}
pub use Rattle.portal_tables.specs.inner.Texts.{round_of}
pub use Rattle.portal_views.specs.declared.lines.ApplicantLine.{ApplicantLine}
pub use Rattle.portal_views.specs.inner.Base.{AllByRecursion, Database, Err, First, Global, IsDatabase, Key}
pub use Rattle.portal_views.specs.inner.Base.{LecturerRow, List, Listing, None, Option, ProjectRow, Rise, Round, Row}
pub use Rattle.portal_views.specs.inner.Base.{Second, Some, Trees, Vec, [], bytes, column, false, filter, filter_map}
pub use Rattle.portal_views.specs.inner.Base.{find, has, equals, is_at, Trees, length, listing_with, map, not}
pub use Rattle.portal_views.specs.inner.Base.{option_map, put, state, IsLecturer, IsProject, IsStudent, Person}
pub use Rattle.portal_views.specs.inner.Callers.{AreStudentsOf, applicants_of_projects, lecturer_shown, lines_shown}
pub use Rattle.portal_views.specs.inner.Callers.{own_keys_shown}
pub use Rattle.portal_views.specs.inner.Callers.{person_key, persons_at, placed_at_shown, placed_of_projects}
pub use Rattle.portal_views.specs.inner.Callers.{HasOwnKeys}
pub use Rattle.portal_views.specs.inner.Callers.{student_shown}
pub use Rattle.portal_views.specs.inner.Catalogue.{catalogue_shown, own_listed, offered_in}
pub use Rattle.portal_views.specs.inner.Contents.{rows_from, rows_held, HasReadOf, HasFineRows}
pub use Rattle.portal_views.specs.inner.Lines.{HasTables, applicant_lines, in_round, applicant_at, shown_line}
pub use Rattle.portal_views.specs.inner.Lines.{placement_line, HasKeyForm, HasStudents, IsStudentKey, IsNamed}
pub use Rattle.portal_views.specs.inner.Lines.{IsNamedWithPlacement}
pub use Rattle.portal_views.specs.inner.Office.{HasWholeLists, is_chosen_shown, is_wanted_shown, office_sees_with}
pub use Rattle.portal_views.specs.inner.Office.{unlisted, waiting_key, waiting_keys, AreReadable}
pub use Rattle.spa_rows.specs.Lines.{is_key}
pub use Rattle.sqlite.specs.Collation.TheVariants.{Binary}
pub use Rattle.sqlite.specs.Edit.{id_in}
pub use Rattle.sqlite.specs.Ops.{from_truth, is_true}
pub use Rattle.sqlite.specs.State.{State}
pub use Rattle.sqlite.specs.Tree.{rowid}
pub use Rattle.sqlite.specs.declared.types.Value.{Value}
pub use Rattle.sqlite.specs.declared.types.Value.TheVariants.{Int, Null, Text as Words}
pub use Rattle.sqlite_rules.specs.Lists.{Has}
pub use Rattle.sqlite_schema.specs.Rules.{Keeps, differ, equal, passes}
pub use Rattle.sqlite_schema.specs.declared.schema.Constraint.TheVariants.{ForeignKey, Unique}
pub use Rattle.sqlite_trees.proofs.ListLemmas.{IsPermutation-filter, all-filter, all_of, filter-map, filter_none}
pub use Rattle.sqlite_trees.proofs.ListLemmas.{map-map}
