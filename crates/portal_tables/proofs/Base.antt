-- Names from below that the proofs use.
unfoldable pub use Rattle.portal_tables.specs.Tables.{first_schema, portal_schema, with_created}
unfoldable pub use Rattle.sqlite.specs.Listing.{understood}
unfoldable pub use Rattle.sqlite.specs.Ops.{binary, unary}
unfoldable pub use Rattle.sqlite.specs.Order.{value_cmp}
unfoldable pub use Rattle.sqlite.specs.State.{FailsToQuery, IsNotRun, Shown}
unfoldable pub use Rattle.sqlite_tied.specs.Compute.{everything}
unfoldable pub use Rattle.std.specs.List.{IsDistinct}
pub use lib.Dec.{lt→ltb}
pub use Rattle.std.proofs.Common.{ap, ap₂, cond, drop, eqb, get_or, inl, inr, int_cmp, negsuc, refl, slice_get, subst}
pub use Rattle.std.proofs.Common.{subst₂, suc, sym, zero, zero-add, ◌∙◌, arith, rules, ◌/◌}
pub use Rattle.std.proofs.Math.Bool.{and-false, and-true, or-true}
pub use Rattle.std.proofs.lemmas.Bool.{and_parts, cases_Bool, cases_lt, eq-eqb, eqb-false, or_parts}
pub use Rattle.std.proofs.lemmas.Cmp.{nat_list_cmp_total, tied_itself}
pub use Rattle.std.proofs.lemmas.Fn.{always_returns_same}
pub use Rattle.std.proofs.lemmas.List.{append-nil, append_assoc, length-map, length-take-le, length_push, map-append}
pub use Rattle.std.proofs.lemmas.List.{map-id, nil_from_length, take-append-drop, take_all, take_more}
pub use Rattle.std.proofs.lemmas.List.Elements.{filter-append, filter_map-append}
pub use Rattle.std.proofs.lemmas.List.Sorted.{IsPermutation-append_left, IsPermutation-append_right, IsPermutation-cons}
pub use Rattle.std.proofs.lemmas.List.Sorted.{IsPermutation-filter_both, IsPermutation-map, IsPermutation-middle}
pub use Rattle.std.proofs.lemmas.List.Sorted.{IsPermutation-refl, IsPermutation-sym, IsPermutation-to_front}
pub use Rattle.std.proofs.lemmas.List.Sorted.{IsPermutation-trans, length_permutation, list_any-IsPermutation}
pub use Rattle.std.proofs.lemmas.List.Sorted.{searchable_from_sorted}
pub use Rattle.std.proofs.lemmas.Map.Keys.{IsDistinct-IsPermutation}
pub use Rattle.std.proofs.lemmas.Map.Lookups.{exact_bytes}
pub use Rattle.std.proofs.lemmas.Result.{IfOk-from_err, IfOk-weaker, MatchResult-weaker, on_err_weaker, on_ok_weaker}
pub use Rattle.std.proofs.lemmas.Result.{IfErr-at_err, IfErr-weaker}
pub use Rattle.std.specs.Borrow.{Bor}
pub use Rattle.std.specs.Cmp.{int_cmp_is, nat_cmp_is, Equal-is}
pub use Rattle.std.specs.Cmp.Lexicographic.{texts_ties}
pub use Rattle.std.specs.List.{cons_option, list_all}
pub use Rattle.std.specs.Ordering.{is_gt, match_ordering, ordering_reverse, ordering_then}
pub use Rattle.std.specs.Prelude.{IfSome, if◌then◌else◌, is_some, option_copied, ◌&&◌, ◌++◌, ◌+◌, ◌<◌, ◌==◌, ◌||◌, ◌∷◌}
pub use Rattle.std.specs.Prelude.{◌≡◌, ◌≢◌, ◌≤◌, ◌⊎◌, ◌<ℤ◌, MatchResult, ◌↔◌, fold, IfErr, IsSome}
pub use Rattle.std.specs.Result.{IsErr, IsErrAnd}
pub use Rattle.std.specs.declared.cmp.Ordering.{Ordering}
pub use Rattle.std.specs.declared.cmp.Ordering.TheVariants.{Equal, Greater, Less}
pub use Rattle.portal_rules.proofs.Adjacent.{adjacent_rise, rows_sorted}
pub use Rattle.portal_rules.proofs.AllLaws.{all_map, all_weaker, any_map, filtered_any, is_sym, none_is}
pub use Rattle.portal_rules.proofs.Fills.{before_other}
pub use Rattle.portal_rules.proofs.Keys.{all_unmap, is_own, is_same, not_before_itself}
pub use Rattle.portal_rules.proofs.Puts.{after_other, before_trans, rise_put, less_of}
pub use Rattle.portal_rules.specs.Words.{is_empty}
pub use Rattle.portal_tables.specs.Making.{Creates, IsFresh, Upgrades}
pub use Rattle.portal_tables.specs.Rows.{RowNumbersDiffer, has_text, row_key, portal_row, second_row, CountUp, IsWhole}
pub use Rattle.portal_tables.specs.Rows.{by_place, chosen, named_by, of_key, place_key, place_of, second_placement}
pub use Rattle.portal_tables.specs.Rows.{HasOffice, number_of_phase}
pub use Rattle.portal_tables.specs.Steps.{Commits, IsAfter, Stays}
pub use Rattle.portal_tables.specs.Tables.{tree_of, IsCurrentSchema, IsFirstSchema, HasFirstSchema, SameSchema}
pub use Rattle.portal_tables.specs.Tables.{SameTable, assigned2_tree, choice2_tree, choice_tree, first_texts}
pub use Rattle.portal_tables.specs.Tables.{first_trees, first_version, later_trees, lecturer_tree, no_schema, own_trees}
pub use Rattle.portal_tables.specs.Tables.{portal_tree, project_tree, ranked2_tree, ranking2_tree, ranking_tree}
pub use Rattle.portal_tables.specs.Tables.{second_texts, second_tree, student_tree, version, names}
pub use Rattle.portal_tables.specs.declared.fault.TableFault.{TableFault}
pub use Rattle.portal_tables.specs.declared.fault.TableFault.TheVariants.{Damaged, Memory, Store}
pub use Rattle.portal_tables.specs.declared.sql.insert.lists.NewPlace.{NewPlace}
pub use Rattle.portal_tables.specs.declared.sql.list_table.Lists.{Lists}
pub use Rattle.portal_tables.specs.declared.sql.list_table.Lists.TheVariants.{Choices, Rankings}
pub use Rattle.portal_tables.specs.declared.sql.select.Query.TheVariants.{AllLists, Choosers, LecturerByCode, LecturerByKey}
pub use Rattle.portal_tables.specs.declared.sql.select.Query.TheVariants.{ListOf, Listed, Numbers, ProjectsOf}
pub use Rattle.portal_tables.specs.declared.sql.select.Query.TheVariants.{SecondPlaceOf, SecondRankedBy, StudentByCode}
pub use Rattle.portal_tables.specs.declared.sql.select.Query.TheVariants.{StudentTold, Whole}
pub use Rattle.portal_tables.specs.declared.sql.select.RollTable.TheVariants.{Lecturers, Projects, Students}
pub use Rattle.portal_tables.specs.declared.sql.select.Table.{Table as Named}
pub use Rattle.portal_tables.specs.declared.sql.select.Table.TheVariants.{OfLists, OfPlaces, OfRanked, OfRoll}
pub use Rattle.portal_tables.specs.inner.Base.{put, Key, Rise, has, equals, is_before, Phase, Round, First, Second}
pub use Rattle.portal_tables.specs.inner.Base.{is_key, created, Binary, id_in, is_taken, next_rowid, Database}
pub use Rattle.portal_tables.specs.inner.Base.{IsDatabase, Held, state, Integer, Cells, Row, bytes, column, Schema}
pub use Rattle.portal_tables.specs.inner.Base.{Begins, HasCleanDisk, IsRolledBack, IsUnchanged, KeepsCommit, Shows}
pub use Rattle.portal_tables.specs.inner.Base.{State, Survives, Ghosts, Table, Term, col, lit, op2, Trees, put_row}
pub use Rattle.portal_tables.specs.inner.Base.{rowid, bound, Error, Transaction, Value, Int, Null, Words, Column, Index}
pub use Rattle.portal_tables.specs.inner.Base.{Reference, key_cmp, Compare, Eq, number_in, ascending, Order, Bool, Err}
pub use Rattle.portal_tables.specs.inner.Base.{IfOk, IsTrue, List, None, Ok, OnErr, OnOk, Option, Result, Some, Vec, []}
pub use Rattle.portal_tables.specs.inner.Base.{codes, false, filter, length, map, not, option_map, pos, take, true, ℕ}
pub use Rattle.portal_tables.specs.inner.Base.{ℤ, slice_cmp, AllByRecursion, AllZip, filter_map, find, flat_map}
pub use Rattle.portal_tables.specs.inner.Base.{list_any, IsPermutation, IsSorted, is_eq, is_lt, nat_cmp, ⊤, Global}
pub use Rattle.portal_tables.specs.inner.Base.{IsStudent}
pub use Rattle.portal_tables.specs.inner.Changes.{AreNew, Becomes, Drops, ListsBy, InsertsRows, Sets, columns, every}
pub use Rattle.portal_tables.specs.inner.Changes.{has_number, with_rows}
pub use Rattle.portal_tables.specs.inner.Decoding.{FindsAny, FindsRow, IsPlainIfAny, Leaves, ReadsEach, ShowsAs}
pub use Rattle.portal_tables.specs.inner.Decoding.{Refuses}
pub use Rattle.portal_tables.specs.inner.MakingSteps.{Grown, Grows, Makes, MakesFirst, MakesSecond, second_trees}
pub use Rattle.portal_tables.specs.inner.MakingSteps.{with_second, IsCreateTable, Defines, MakesOne, MakesEach}
pub use Rattle.portal_tables.specs.inner.MakingSteps.{first_tables, second_tables}
pub use Rattle.portal_tables.specs.inner.Owners.{IsRead, entry, list_in_order, with_list, AreEntriesOf, IsFine}
pub use Rattle.portal_tables.specs.inner.Owners.{IsListOf}
pub use Rattle.portal_tables.specs.inner.Placements.{pair_shown, placed_project, first_pair, HasPairKeys}
pub use Rattle.portal_tables.specs.inner.Placements.{HasPlacementAsked}
pub use Rattle.portal_tables.specs.inner.Putting.{PutsList, PutsPlacements, RanksSecond, list_cells, numbered, placed}
pub use Rattle.portal_tables.specs.inner.Queries.{columns_of, roll_tree, round_asked, selection, table_round}
pub use Rattle.portal_tables.specs.inner.Queries.{table_tree}
pub use Rattle.portal_tables.specs.QueryTexts.{given, query_text}
pub use Rattle.portal_tables.specs.Reads.{IfOpen, Always, Blames, IsCommitted, IsUnchangedOrUndone, OnlyLooks}
pub use Rattle.portal_tables.specs.Reads.{Reading, Anyhow, Gives, HasRound, HasReason, IsOtherError, IsStoreFault, NoFault}
pub use Rattle.portal_tables.specs.inner.Rising.{is_above, rises}
pub use Rattle.portal_tables.specs.inner.Rolls.{by_key}
pub use Rattle.portal_tables.specs.inner.RowChanges.{IsOffice, IsSecond, Adds, AddsBy, Assigned, Assigns, portal_cells}
pub use Rattle.portal_tables.specs.inner.RowChanges.{second_cells, Clears, IsOfVersion, MovesTo}
pub use Rattle.portal_tables.specs.inner.RowChanges.{MarksRanked}
pub use Rattle.portal_tables.specs.inner.RowChanges.{assigned_by, lecturer_cells, lecturer_new, lecturer_values}
pub use Rattle.portal_tables.specs.inner.RowChanges.{pair_new, place_cells, place_new, project_new, student_new}
pub use Rattle.portal_tables.specs.inner.RowChanges.{student_columns, student_values, text_or_null_cell, with_assigned}
pub use Rattle.portal_tables.specs.Running.{Does, GoesOn, Made, Ran}
pub use Rattle.portal_tables.specs.inner.Schema.{assigned2, column_of}
pub use Rattle.portal_tables.specs.inner.Schema.{first_written, lecturer_schema, list_table, portal, portal_written}
pub use Rattle.portal_tables.specs.inner.Schema.{project_schema, ranked2, schema_of}
pub use Rattle.portal_tables.specs.inner.Schema.{second, student_schema}
pub use Rattle.portal_tables.specs.inner.Shown.{as_list, first_cell, shown_name, shown_rank, shown_student}
pub use Rattle.portal_tables.specs.inner.Texts.{add_eight_text, add_text, clear_text, phase_text, place_among, round_of}
pub use Rattle.sqlite.proofs.Callers.{EndsIn, IsPlain, begins_shown, command_of, given_begin}
pub use Rattle.sqlite.proofs.Callers.{memory_is_clean, one_permutation, one_step, reads_as, runs_as, statement_of}
pub use Rattle.sqlite.proofs.Callers.{survives_begin, unchanged_then}
pub use Rattle.sqlite.proofs.InsideLemmas.{keeps_then as kept_then}
pub use Rattle.sqlite.proofs.StateLemmas.{survives_then, survives_weaker, unchanged}
pub use Rattle.sqlite.proofs.StreamLemmas.{rolled_back_since}
pub use Rattle.sqlite.specs.Cast.{cast, cast_row}
pub use Rattle.sqlite.specs.Clock.{timed}
pub use Rattle.sqlite.specs.Command.TheVariants.{CreateTable, Delete, Insert, Select, Update}
pub use Rattle.sqlite.specs.Compile.{table_defined_by}
pub use Rattle.sqlite.specs.Does.{Tally, lacks_sequence}
pub use Rattle.sqlite.specs.Edit.{Edit, are_fresh, edit_of, put_all, taken_by, without_all}
pub use Rattle.sqlite.specs.Effect.{Answers, value_rows, Reads}
pub use Rattle.sqlite.specs.Given.{Advances, HasGiven, IsRefused}
pub use Rattle.sqlite.specs.Listing.{IsSourceOf, reads_listing}
pub use Rattle.sqlite.specs.Ops.{from_truth, is_true}
pub use Rattle.sqlite.specs.Program.{IsProgramAnswer}
pub use Rattle.sqlite.specs.Query.{IsAnswer, Output, Query, end, inner, output}
pub use Rattle.sqlite.specs.Rowids.TheVariants.{Chosen, Given}
pub use Rattle.sqlite.specs.Rows.{Edited, Written}
pub use Rattle.sqlite.specs.Source.TheVariants.{Values}
pub use Rattle.sqlite.specs.State.{Executes, FailsToShow, ShowsRows, Writes, mode_of}
pub use Rattle.sqlite.specs.Steps.{FailsToCommit}
pub use Rattle.sqlite.specs.Term.{eval_all, holds}
pub use Rattle.sqlite.specs.Tree.{has_rowid, without_rowid}
pub use Rattle.sqlite.specs.Values.{bound_value}
pub use Rattle.sqlite.specs.View.{doubt}
pub use Rattle.sqlite.specs.declared.types.Value.TheVariants.{Text}
pub use Rattle.sqlite_catalog.proofs.ReadLemmas.{lists_once}
pub use Rattle.sqlite_catalog.specs.Listing.{IsSound}
pub use Rattle.sqlite_exec.proofs.AgreeLemmas.{zip-append, zip_itself}
pub use Rattle.sqlite_exec.proofs.PartitionLemmas.{ascending_from_sorted}
pub use Rattle.sqlite_exec.proofs.RowsLemmas.{IsSorted-map}
pub use Rattle.sqlite_exec.proofs.RunLemmas.{answer_alone}
pub use Rattle.sqlite_resolve.specs.declared.compiled.Compiled.{Compiled}
pub use Rattle.sqlite_rules.proofs.ListLemmas.{all_from, all_has, all_more, has_filtered, has_left, has_right}
pub use Rattle.sqlite_rules.proofs.ListLemmas.{some_from}
pub use Rattle.sqlite_rules.specs.Action.{deed_for, pairs, work_by, works}
pub use Rattle.sqlite_rules.specs.Calls.{ids_of}
pub use Rattle.sqlite_rules.specs.Lists.{Has}
pub use Rattle.sqlite_schema.specs.Program.{lets_of}
pub use Rattle.sqlite_schema.specs.Rules.{Keeps, are_present, are_typed, equal, is_of, parent_key, passes}
pub use Rattle.sqlite_schema.specs.declared.command.Command.{Command}
pub use Rattle.sqlite_schema.specs.declared.program.Program.{Program}
pub use Rattle.sqlite_schema.specs.declared.schema.Constraint.{Constraint}
pub use Rattle.sqlite_schema.specs.declared.schema.Constraint.TheVariants.{Datatype, ForeignKey, NotNull}
pub use Rattle.sqlite_schema.specs.declared.schema.Keys.TheVariants.{Enforced}
pub use Rattle.sqlite_sql.specs.Ops.{is_null}
pub use Rattle.sqlite_sql.specs.Program.{Ends}
pub use Rattle.sqlite_trees.proofs.Doubt.{no_doubt}
pub use Rattle.sqlite_trees.proofs.ListLemmas.{IsPermutation-filter, all-append, all-filter, all-get_or, all-map}
pub use Rattle.sqlite_trees.proofs.ListLemmas.{all_of, filter-map, filter_none, map-map}
pub use Rattle.sqlite_trees.proofs.TreeLemmas.{all-put_row}
pub use Rattle.sqlite_trees.specs.Tree.{IsAscending}
pub use Rattle.sqlite_value.proofs.OrderLemmas.{then-Equal, value_cmp-Int, value_cmp-Text, value_cmp_total}
