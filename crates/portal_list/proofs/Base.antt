-- Names from below that the proofs use.
pub use Rattle.std.proofs.Common.{Any, Bool, Bor, Global, IfOk, IsTrue, Less, List, Vec, [], ap, append-nil, arith}
pub use Rattle.std.proofs.Common.{cond, drop, false, get_or, inl, inr, length, map, refl, rules, subst, subst₂, suc}
pub use Rattle.std.proofs.Common.{sym, take, true, zero, ℕ, ◌++◌, ◌+◌, ◌<◌, ◌↔◌, ◌∙◌, ◌∷◌, ◌≡◌, ◌≤◌, add-one, Contains}
pub use Rattle.std.proofs.Common.{replicate, Equal, Greater}
pub use Rattle.std.proofs.Math.Bool.{or-false, or-true, and_comm, or_assoc, and-true, and-false}
pub use Rattle.std.proofs.lemmas.Bool.{cases_lt, false≢true, iff_false, or_parts, false_from_ne_true, and_parts}
pub use Rattle.std.proofs.lemmas.Bool.{and_from, eq-eqb, ne_eqb}
pub use Rattle.std.proofs.lemmas.Cmp.{nat_list_cmp_total, tied_itself}
pub use Rattle.std.proofs.lemmas.Fn.{always_returns_same}
pub use Rattle.std.proofs.lemmas.Grind.{common_steps}
pub use Rattle.std.proofs.lemmas.List.{drop-set-lt, get_or-take, get_or_default, length-map, length-take, map_push}
pub use Rattle.std.proofs.lemmas.List.{ext_get_or, take_more, get_or-set_same, get_or-set_other, length-replicate}
pub use Rattle.std.proofs.lemmas.List.{with_items_is, take_at}
pub use Rattle.std.proofs.lemmas.List.Edits.{map_over_more}
pub use Rattle.std.proofs.lemmas.List.Elements.{filter_map-append}
pub use Rattle.std.proofs.lemmas.List.Folds.{Any-from_list_any, list_any-from_Any, list_any_at, list_any_more}
pub use Rattle.std.proofs.lemmas.List.Folds.{list_any-append}
pub use Rattle.std.proofs.lemmas.Result.{IfOk-weaker}
pub use Rattle.std.specs.Cmp.Lexicographic.{slice_cmp}
pub use Rattle.std.specs.List.{AllByRecursion, cons_option, filter_map, find, list_any}
pub use Rattle.std.specs.Ordering.{nat_cmp}
pub use Rattle.std.specs.Prelude.{IfSome, None, Option, Some, filter, is_none, nat_lt, not, option_map, slice_set}
pub use Rattle.std.specs.Prelude.{unwrap_or, ◌&&◌, ◌==◌, ◌||◌, vec_len, vec_capacity}
pub use Rattle.std.specs.Vec.Iter.{into_iter_items}
pub use Rattle.portal_rules.proofs.Acts.{catalogue_chosen, catalogue_ranked, catalogue_placed}
pub use Rattle.portal_rules.proofs.AllLaws.{all_at, all_weaker, map_same, any_or, any_nowhere, all_append, all_both}
pub use Rattle.portal_rules.proofs.AllLaws.{none_of, is_sym, all_map}
pub use Rattle.portal_rules.proofs.Capacities.{first_plays, left_of, second_plays}
pub use Rattle.portal_rules.proofs.Fills.{rise_kept, rise_distinct, catalogue_filled}
pub use Rattle.portal_rules.proofs.Keys.{all_unmap, is_own, is_same, not_before_itself, find_map}
pub use Rattle.portal_rules.specs.Good.{IsChoice, IsLecturer, IsProject, IsRanking, IsStudent, Sound, instance}
pub use Rattle.portal_rules.specs.Good.{instance_of, lecturer_keys, project_keys, student_keys, Good, codes_of}
pub use Rattle.portal_rules.specs.Good.{matching_of}
pub use Rattle.portal_rules.specs.Meaning.{change_model}
pub use Rattle.portal_rules.specs.View.{catalogue, persons, name_in, listing_with, listings, office_sees, lecturer_sees}
pub use Rattle.portal_rules.specs.View.{lecturer_with, student_with, caller_among, sight_of}
pub use Rattle.portal_rules.specs.Words.{AreDistinct, Key, Rise, equals, has, is_before, is_empty, put, put_all}
pub use Rattle.portal_rules.specs.Words.{is_code}
pub use Rattle.portal_rules.specs.World.{Choices, Ranks, changed, placed_before, placement_in, ranked_before}
pub use Rattle.portal_rules.specs.World.{with_choice, with_place, with_ranking, Lecturer, Student, World, applicants_of}
pub use Rattle.portal_rules.specs.World.{first_placed, first_published, is_left, is_published, is_still_to_rank}
pub use Rattle.portal_rules.specs.World.{lecturer_key, lecturers_left, lowered_lecturer, pairs_with, project_key}
pub use Rattle.portal_rules.specs.World.{projects_left, projects_of, shown_placement, student_key, is_second}
pub use Rattle.portal_rules.specs.World.{lowered_project, students_in, first, Change, To, Fill, with_fill, is_at}
pub use Rattle.portal_rules.specs.World.{is_from_ranking, new_lecturer, new_student, projects_in}
pub use Rattle.portal_rules.specs.declared.phase.Phase.TheVariants.{Setup}
pub use Rattle.portal_rules.specs.declared.phase.Round.{Round}
pub use Rattle.portal_rules.specs.declared.phase.Round.TheVariants.{First, Second}
pub use Rattle.portal_rules.specs.declared.rows.LecturerRow.{LecturerRow}
pub use Rattle.portal_rules.specs.declared.rows.ProjectRow.{ProjectRow}
pub use Rattle.portal_rules.specs.Alone.{alone_lecturer, alone_student, alone}
pub use Rattle.portal_list.specs.Rows.{AllEntries, HasEntries, entries_in, choices_in, earlier_choices_in}
pub use Rattle.portal_list.specs.Rows.{rankings_with, RowsOfWorld, world_rows, is_followed, fill_missing}
pub use Rattle.portal_list.specs.inner.ApplicantIndex.{IsApplicantIndex, is_among, is_noted, is_noted_in, passes_at}
pub use Rattle.portal_list.specs.inner.Fill.{filled, missing, with_missing, unless_empty}
pub use Rattle.portal_list.specs.inner.Fit.{IsFitted, lecturers_fitting, students_fitting, next_for, rest_for}
pub use Rattle.portal_list.specs.inner.Fit.{earlier_for, earlier_rest, with_lists}
pub use Rattle.portal_list.specs.inner.Lines.{instance_lecturer, instance_project, instance_rows, instance_student}
pub use Rattle.portal_list.specs.inner.Parts.{HasNothingEarlier, HasRanking, ListsFit, ListsOf, RollsOf, applicant_keys}
pub use Rattle.portal_list.specs.inner.Parts.{wanting, codes_in, lecturer_row_keys, student_row_keys, RollsFit}
pub use Rattle.portal_list.specs.inner.Parts.{IsOutIfPlaced, IsStableIfPublished}
pub use Rattle.portal_list.specs.inner.Played.{world_with, all_played, lecturer_played, project_played, takes_part}
pub use Rattle.portal_list.specs.inner.Played.{placed_now}
pub use Rattle.portal_rules.specs.inner.Offers.{name_of, offered}
pub use Rattle.portal_list.specs.inner.Shown.{applicants_shown, catalogue_in, is_waiting, placements_shown, is_wanted}
pub use Rattle.spa_model.proofs.OneInstance.{never_itself, own_number, numbers_back, choices_below, ranking_below}
pub use Rattle.spa_model.proofs.OneInstance.{keys_one, student_there, project_there, lecturer_there, student_says}
pub use Rattle.spa_model.proofs.OneInstance.{project_says, lecturer_says}
pub use Rattle.spa_model.proofs.Zips.{any_map, any_unmap}
pub use Rattle.spa_model.specs.Pairs.{StandsFor, number_in, keys_at}
pub use Rattle.spa_model.specs.Spa.{IsLawful, Spa, choices_of, lecturer_of, capacity_of, ranking_of, limit_of, IsStable}
pub use Rattle.spa_rows.proofs.Lists.{at_place, map_at}
pub use Rattle.spa_rows.proofs.Seen.{IsInTree, tree_more, tree_before}
pub use Rattle.spa_rows.specs.Faults.{HasNoneBefore, IsEarlierKey, IsKeyOf, Repeats, BadAt, IsRefusal, IsBadCapacity}
pub use Rattle.spa_rows.specs.Faults.{NamesNone, FindsOne, IsApplicant, MissesOne}
pub use Rattle.spa_rows.specs.Lines.{Rows, Text, is_key, ProjectWithLecturer}
pub use Rattle.spa_rows.specs.declared.faults.InstanceFault.TheVariants.{Memory, TooMany, BadKey, KeyTwice, BadCapacity}
pub use Rattle.spa_rows.specs.declared.faults.InstanceFault.TheVariants.{NoSuchLecturer, NoSuchProject, RepeatInList}
pub use Rattle.spa_rows.specs.declared.faults.InstanceFault.TheVariants.{ListTooLong, NotApplicant, ApplicantMissing}
pub use Rattle.spa_rows.specs.inner.Index.{text_eq}
