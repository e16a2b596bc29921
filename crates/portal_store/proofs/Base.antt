-- Names from below that the proofs use.
unfoldable pub use Rattle.portal_store.specs.World.{world_in, world_of}
unfoldable pub use Rattle.std.specs.List.{IsDistinct}
pub use Rattle.std.proofs.Common.{Bool, Err, IfOk, IsTrue, List, None, Ok, OnErr, OnOk, Option, Result, Some, [], ap}
pub use Rattle.std.proofs.Common.{ap₂, arith, cond, eqb, false, filter, get_or, inl, inr, length, map, not, option_map}
pub use Rattle.std.proofs.Common.{pos, refl, rules, slice_index_or, subst, subst₂, sym, take, true, ℕ, ◌&&◌, ◌++◌, ◌+◌}
pub use Rattle.std.proofs.Common.{◌<◌, ◌||◌, ◌∙◌, ◌∷◌, ◌≡◌, ◌≢◌, ◌⊎◌, ◌+ℤ◌, append_assoc, append-nil, Less, suc, ◌≤◌}
pub use Rattle.std.proofs.Common.{IfErr, drop, zero, ℤ}
pub use Rattle.std.proofs.Math.Bool.{or-true, and-false, or-false}
pub use Rattle.std.proofs.lemmas.Bool.{cases_Bool, or_parts, eqb-false}
pub use Rattle.std.proofs.lemmas.Bool.Decides.{nat_tests, eqb_tells}
pub use Rattle.std.proofs.lemmas.List.{map-append, map-id, get_or-map, length-map, nil_from_length, take_more, take_all}
pub use Rattle.std.proofs.lemmas.List.Sorted.{IsPermutation-cons, IsPermutation-filter_both, IsPermutation-map}
pub use Rattle.std.proofs.lemmas.List.Sorted.{IsPermutation-middle, IsPermutation-refl, IsPermutation-sym}
pub use Rattle.std.proofs.lemmas.List.Sorted.{IsPermutation-trans, length_permutation, list_any-IsPermutation}
pub use Rattle.std.proofs.lemmas.List.Sorted.{IsPermutation-append_right}
pub use Rattle.std.proofs.lemmas.Result.{IfErr-weaker, IfOk-weaker, MatchResult-weaker, on_err_weaker, on_ok_weaker}
pub use Rattle.std.proofs.lemmas.Result.{MatchResult-from_both}
pub use Rattle.std.specs.List.{AllByRecursion, cons_option, filter_map, find, list_all, list_any, AllZip}
pub use Rattle.std.specs.List.Sorted.{IsPermutation}
pub use Rattle.std.specs.Prelude.{IfSome, if◌then◌else◌, is_none, ◌==◌, nat_lt, ◌-◌, ◌↔◌}
pub use Rattle.std.specs.Result.{IsErr, IsErrAnd}
pub use Rattle.portal_rules.proofs.AllLaws.{all_append, all_map, all_weaker, is_sym, map_same, none_passes, all_both}
pub use Rattle.portal_rules.proofs.AllLaws.{any_map}
pub use Rattle.portal_rules.proofs.Capacities.{first_plays, each_one}
pub use Rattle.portal_rules.proofs.Kept.{place_row}
pub use Rattle.portal_rules.proofs.Keys.{all_unmap, is_own, is_same, find_map}
pub use Rattle.portal_rules.specs.Good.{Good, Sound, IsLecturer, IsProject, IsStudent, IsChoice, IsRanking, instance_of}
pub use Rattle.portal_rules.specs.Good.{places_of, project_keys, instance}
pub use Rattle.portal_rules.specs.Meaning.{change_model}
pub use Rattle.portal_rules.specs.View.{OfficeCaller, caller_among, catalogue, lecturer_with, sight_of, student_with}
pub use Rattle.portal_rules.specs.View.{office_sees, student_sees, name_in, listing_with, listings, persons}
pub use Rattle.portal_rules.specs.View.{lecturer_sees, view}
pub use Rattle.portal_rules.specs.Calls.{OfficeSees}
pub use Rattle.portal_rules.specs.Words.{is_code, Key, Rise, equals, has, is_empty, put_all}
pub use Rattle.portal_rules.specs.World.{Change, Choices, Fill, Lecturers, Placements, Projects, Ranks, SecondRound}
pub use Rattle.portal_rules.specs.World.{Students, To, changed, placement_in, with_place, with_ranking, Lecturer}
pub use Rattle.portal_rules.specs.World.{Student, World, applicants_of, first_placed, is_from_ranking, is_left}
pub use Rattle.portal_rules.specs.World.{is_published, is_second, is_setup, is_still_to_rank, lecturer_key, pairs_with}
pub use Rattle.portal_rules.specs.World.{project_key, shown_placement, student_key, students_in, with_choice, opened}
pub use Rattle.portal_rules.specs.World.{ranked_before, placed_before, first, first_published, in_play, with_fill}
pub use Rattle.portal_rules.specs.World.{pairs_of, given_with, lowered_lecturer, lowered_project, lecturers_left}
pub use Rattle.portal_rules.specs.World.{projects_left, projects_of, applicants_to, placed_at, is_at, new_lecturer}
pub use Rattle.portal_rules.specs.World.{new_student}
pub use Rattle.portal_rules.specs.declared.phase.Phase.{Phase}
pub use Rattle.portal_rules.specs.declared.phase.Phase.TheVariants.{Choosing, Published, Ranking, Setup}
pub use Rattle.portal_rules.specs.declared.phase.Round.{Round}
pub use Rattle.portal_rules.specs.declared.phase.Round.TheVariants.{First, Second}
pub use Rattle.portal_rules.specs.declared.rows.LecturerRow.{LecturerRow}
pub use Rattle.portal_rules.specs.declared.rows.Listing.{Listing}
pub use Rattle.portal_rules.specs.declared.rows.ProjectRow.{ProjectRow}
pub use Rattle.portal_rules.specs.declared.rows.StudentRow.{StudentRow}
pub use Rattle.portal_rules.specs.declared.view.View.TheVariants.{Lecturer as LecturerSight, Student as StudentSight}
pub use Rattle.portal_rules.specs.declared.view.View.TheVariants.{Office as OfficeSight}
pub use Rattle.portal_rules.specs.Alone.{alone, alone_student, alone_lecturer}
pub use Rattle.portal_store.specs.inner.ViewCache.{IsCacheOf}
pub use Rattle.portal_list.proofs.Replaced.{ranking_elsewhere, ranking_here}
pub use Rattle.portal_list.specs.Rows.{HasEntries, RowsOfWorld, world_rows, choices_in, rankings_with}
pub use Rattle.portal_list.specs.Rows.{fill_missing}
pub use Rattle.portal_rules.specs.inner.Offers.{offered}
pub use Rattle.portal_list.specs.inner.Shown.{is_wanted, is_waiting}
pub use Rattle.portal_store.specs.Crash.{IsTrueOfOpening, IsTrueOfUpgrading, Reopens, OpensAgain, OpensFresh, UpgradesAgain, HasVersion}
pub use Rattle.portal_store.specs.Crash.{IsTrueOfTables, IsLeft, IsUpgradedFrom, LeavesUpgraded}
pub use Rattle.portal_store.specs.Kept.{HasChanged, HasGoodFirst, HasGoodWorld, HasGoodWorldIn, HasSecond, IsCleanStore}
pub use Rattle.portal_store.specs.Kept.{IsConsistent, IsConsistentIn, IsTransition, IsUnopened, StoreState, Whole, kept_world}
pub use Rattle.portal_store.specs.Kept.{AreWhole, DiskInMemory, Lasts, LastsInMemory, IsOpened, IsBrokenStore}
pub use Rattle.portal_store.specs.Kept.{UnbrokenInMemory, AreConsistent, LeavesConsistent, kept_state}
pub use Rattle.portal_store.specs.World.{is_ranked, lecturer_stored, phase_in, round_in, student_stored, first_world}
pub use Rattle.portal_store.specs.World.{ranking_in, choice_in, placement_in_round, second_phase, office_row}
pub use Rattle.portal_store.specs.declared.changing.add_rows.NewRows.{NewRows}
pub use Rattle.portal_store.specs.declared.store.OpenFault.{OpenFault}
pub use Rattle.portal_store.specs.inner.Adding.{with_rows_added}
pub use Rattle.portal_store.specs.inner.Asked.{Admits, AdmitsAs, SaysNot, IsOfRows, NumbersDiffer, SaysNothing}
pub use Rattle.portal_store.specs.inner.Asked.{IsJudged}
pub use Rattle.portal_store.specs.inner.Ending.{CommitsChange, LeavesMade}
pub use Rattle.portal_store.specs.inner.Keeping.{AllNumbersDiffer, AreEmpty, KeepsClean, AreEntries, HasChangedIn}
pub use Rattle.portal_store.specs.inner.Keeping.{IsKept, IsTransitionFrom, IsTransitionIn, early_trees, HasChangedFrom}
pub use Rattle.portal_store.specs.inner.Loads.{LoadsIn, Loads, after_first, rows_with_earlier, HasNothingBefore}
pub use Rattle.portal_store.specs.inner.Opening.{OpensSecondRound, is_opening}
pub use Rattle.portal_store.specs.inner.Placing.{ShowsRoll, TurnsLeft, TurnsShown, assigned_of, pair_left}
pub use Rattle.portal_store.specs.inner.Putting.{TurnsAll, TurnsThere, with_rankings}
pub use Rattle.portal_store.specs.inner.Queried.{lecturer_from, student_from}
pub use Rattle.portal_store.specs.inner.Reading.{IsNow, IsSameUpToFault, IsSoundIfOpen, RemembersIn}
pub use Rattle.portal_tables.proofs.Asking.{commits_asked, commits_none}
pub use Rattle.portal_tables.proofs.InTurn.{clean_before, looks_by, looks_never, looks_then}
pub use Rattle.portal_tables.proofs.InTurn.{settled_still, stays_left, stays_then, reads_as, reads_both, reads_handed}
pub use Rattle.portal_tables.proofs.InTurn.{reads_more, reads_of, reads_open, reads_short, reads_then, reads_then_of}
pub use Rattle.portal_tables.proofs.InTurn.{reads_wide}
pub use Rattle.portal_tables.proofs.Keeping.{apart_one, others_are, apart_none, puts_apart, sets_apart}
pub use Rattle.portal_tables.proofs.Listed.{all_map_on, permuted}
pub use Rattle.portal_tables.proofs.Lists.{filter-filter, filter_all, not_true, put_splits, sifted}
pub use Rattle.portal_tables.proofs.Making.{parts_of}
pub use Rattle.portal_tables.proofs.OneFound.{filter_alike, found}
pub use Rattle.portal_tables.proofs.Owned.{current_own, has_round, own_made, own_again}
pub use Rattle.portal_tables.proofs.Parents.{text_there, OnRoll, none_of, place_parents}
pub use Rattle.portal_tables.proofs.Runs.{clean_if_open, does_more, does_none, does_then, goes_more, goes_nowhere}
pub use Rattle.portal_tables.proofs.Runs.{goes_then, made_goes, made_more, goes_both}
pub use Rattle.portal_tables.proofs.Shapes.{IsLecturerRow, IsStudentRow, has_text_of, lecturer_rows_formed}
pub use Rattle.portal_tables.proofs.Shapes.{student_rows_formed, student_test}
pub use Rattle.portal_tables.proofs.Sorted.{all_permuted, all_two, at, distinct_if_rise, distinct_permuted, map_alike}
pub use Rattle.portal_tables.proofs.Sorted.{map_alike_on, map_twice, permutes, permutes_more, put_all_map, put_same}
pub use Rattle.portal_tables.proofs.Sorted.{rise_distinct, all_has, has_of, one_rise, rise_put_all, more_put}
pub use Rattle.portal_tables.specs.Making.{IsFresh, Upgrades, has_names, Creates, Upgraded, has_name, stands_for_table}
pub use Rattle.portal_tables.specs.Rows.{IsWhole, chosen, of_key, HasOffice, number_of_phase, RowNumbersDiffer}
pub use Rattle.portal_tables.specs.Rows.{has_text, portal_row, row_key, second_row, text_or_none, phase_numbered}
pub use Rattle.portal_tables.specs.Steps.{Commits, IsAfter, Stays, LeavesOnly}
pub use Rattle.portal_tables.specs.Tables.{tree_of, assigned2_tree, choice2_tree, choice_tree, first_trees}
pub use Rattle.portal_tables.specs.Tables.{first_version, lecturer_tree, own_trees, portal_tree, project_tree}
pub use Rattle.portal_tables.specs.Tables.{ranked2_tree, ranking2_tree, ranking_tree, second_tree, student_tree}
pub use Rattle.portal_tables.specs.Tables.{version, HasFirstSchema, IsCurrentSchema, IsFirstSchema, no_schema}
pub use Rattle.portal_tables.specs.Tables.{first_schema, SameTable, later_trees}
pub use Rattle.portal_tables.specs.declared.sql.list_table.Lists.TheVariants.{Choices as choice_table, Rankings as ranking_table}
pub use Rattle.portal_tables.specs.declared.fault.TableFault.{TableFault}
pub use Rattle.portal_tables.specs.declared.sql.names.Names.TheVariants.{OfSecond}
pub use Rattle.portal_tables.specs.declared.reading.office.Office.{Office}
pub use Rattle.portal_tables.specs.inner.Changes.{Keeps, ListsBy, columns, every, with_rows, Becomes, InsertsRows}
pub use Rattle.portal_tables.specs.inner.Changes.{AreNew, Sets}
pub use Rattle.portal_tables.specs.inner.MakingSteps.{second_trees}
pub use Rattle.portal_tables.specs.inner.Owners.{choice_shown, list_in_order, has_list, IsFine, entry, IsRead}
pub use Rattle.portal_tables.specs.inner.Placements.{pair_shown, HasPlacement, first_pairs, first_pair}
pub use Rattle.portal_tables.specs.inner.Putting.{HasPut, PutsList, RanksSecond, HasPlacements, PutsPlacements}
pub use Rattle.portal_tables.specs.inner.Putting.{HasRanked}
pub use Rattle.portal_tables.specs.Reads.{GivesOrFails, Anyhow, Reading, IsCommitted, IsUnchangedOrUndone}
pub use Rattle.portal_tables.specs.Reads.{OnlyLooks}
pub use Rattle.portal_tables.specs.Reads.{ReadsOr, HasRound, NoFault, IsStoreFault}
pub use Rattle.portal_tables.specs.inner.Rolls.{RollsRise, by_key, lecturer_columns, lecturers_shown, projects_shown}
pub use Rattle.portal_tables.specs.inner.Rolls.{roll_columns, students_shown}
pub use Rattle.portal_tables.specs.inner.RowChanges.{Assigns, MovesTo, pair_new, assigned_by}
pub use Rattle.portal_tables.specs.inner.RowChanges.{with_assigned, student_columns, text_or_null_cell, Adds}
pub use Rattle.portal_tables.specs.inner.RowChanges.{lecturer_new}
pub use Rattle.portal_tables.specs.inner.RowChanges.{project_new, student_new, lecturer_cells}
pub use Rattle.portal_tables.specs.Running.{Does, GoesOn, Made}
pub use Rattle.portal_tables.specs.inner.Shown.{first_cell, shown_lecturer, shown_project, shown_student, as_list}
pub use Rattle.portal_tables.specs.inner.Shown.{lecturer_row, project_row, student_row}
pub use Rattle.portal_views.proofs.Turns.{reads_any, reads_first}
pub use Rattle.portal_views.specs.inner.Callers.{lecturer_shown, student_shown, person_key, lines_shown, persons_at}
pub use Rattle.portal_views.specs.inner.Callers.{persons_before, placed_among, placed_at_shown, applicants_of_projects}
pub use Rattle.portal_views.specs.inner.Callers.{placed_of_projects, own_keys_shown}
pub use Rattle.portal_views.specs.inner.Catalogue.{catalogue_shown, IsCatalogue}
pub use Rattle.portal_views.specs.inner.Contents.{AllRows, AreFine, AreRead, HasRead, rows_from, rows_held}
pub use Rattle.portal_views.specs.inner.Lines.{HasTables, shown_line, applicant_lines}
pub use Rattle.portal_views.specs.inner.Office.{office_shown, HasWholeLists, is_chosen_shown, is_wanted_shown}
pub use Rattle.portal_views.specs.inner.Office.{waiting_key, waiting_keys, unlisted}
pub use Rattle.sqlite.proofs.StateLemmas.{survives_then, survives_weaker}
pub use Rattle.sqlite.specs.Edit.{next_rowid}
pub use Rattle.sqlite.specs.Effect.{Database, IsDatabase}
pub use Rattle.sqlite.specs.Held.{Held, state}
pub use Rattle.sqlite.specs.Order.{Row, bytes, column, value_cmp}
pub use Rattle.sqlite.specs.State.{HasCleanDisk, IsUnchanged, State, Survives, IsLive}
pub use Rattle.sqlite.specs.Store.{Ghosts}
pub use Rattle.sqlite.specs.Tree.{Trees, put_row, rowid}
pub use Rattle.sqlite.specs.declared.types.Value.TheVariants.{Int, Null}
pub use Rattle.sqlite_rules.specs.Lists.{Has}
pub use Rattle.sqlite_trees.proofs.ListLemmas.{all_of, filter-map, filter_none, map-map, all-filter}
pub use Rattle.sqlite_trees.specs.Objects.{number_in}
pub use Rattle.sqlite_trees.specs.Tree.{with_tree}
