-- Names from below that the proofs use.
pub use lib.Pointwise.{bytes_decides}
pub use Rattle.std.proofs.Common.{Bool, Contains, Global, List, Vec, [], add-one, ap, append-nil, append_assoc, arith}
pub use Rattle.std.proofs.Common.{cond, drop, false, get_or, inl, inr, length, map, refl, reverse, rules, subst, suc}
pub use Rattle.std.proofs.Common.{sym, take, true, zero, ℕ, ◌++◌, ◌+◌, ◌-◌, ◌<◌, ◌∙◌, ◌∷◌, ◌≡◌, ◌≢◌, ◌≤◌, IfOk, Ok, Err}
pub use Rattle.std.proofs.Common.{string_bytes, IsTrue, ◌↔◌, Bor, drop-cons}
pub use Rattle.std.proofs.Math.Bool.{and-false, or-true, or_comm, or_assoc}
pub use Rattle.std.proofs.lemmas.Bool.{ne_eqb, eq-eqb, eqb-true, or_parts, or_from, cases_lt, false≢true, not-false}
pub use Rattle.std.proofs.lemmas.Bool.{and_parts, and_from}
pub use Rattle.std.proofs.lemmas.Bool.Decides.{nat_tests}
pub use Rattle.std.proofs.lemmas.Cmp.{nat_list_cmp_total, tied_itself}
pub use Rattle.std.proofs.lemmas.Iterator.Adapters.{YieldsList-from_rev_slice}
pub use Rattle.std.proofs.lemmas.Iterator.Consumers.{YieldsList-at, YieldsList-end}
pub use Rattle.std.proofs.lemmas.List.{get_or-map, length-map, map-id, reverse-append, reverse-reverse, flat_map_more}
pub use Rattle.std.proofs.lemmas.List.{take_more, get_or_past, length-append, get_or_default, map-append}
pub use Rattle.std.proofs.lemmas.List.Elements.{AllZip-get_or, All-contains, All-from_recursion, All-from_get_or}
pub use Rattle.std.proofs.lemmas.List.Elements.{All-contains_itself, recursion_from_All}
pub use Rattle.std.proofs.lemmas.List.Folds.{list_any_at, list_any_more, Any-from_list_any, map_fixed}
pub use Rattle.std.proofs.lemmas.List.Sums.{length-filter, count_by-le-length, count_by_more_yes, count_by_more_no}
pub use Rattle.std.proofs.lemmas.Slice.Zip.{AllZip-long}
pub use Rattle.std.specs.Cmp.Lexicographic.{slice_cmp, texts_ties}
pub use Rattle.std.specs.List.{AllByRecursion, AllZip, cons_option, filter_map, find, list_any, flat_map}
pub use Rattle.std.specs.List.{IsAllAdjacentAnswer, list_all}
pub use Rattle.std.specs.Ordering.{is_lt, nat_cmp, ordering_reverse}
pub use Rattle.std.specs.Prelude.{IfSome, None, Option, Some, codes, count_by, filter, if◌then◌else◌, is_none, nat_le}
pub use Rattle.std.specs.Prelude.{nat_lt, not, option_map, unwrap_or, ◌&&◌, ◌==◌, ◌||◌, ◌⊎◌, Result, String}
pub use Rattle.std.specs.Prelude.{slice_index_or, is_some}
pub use Rattle.std.specs.Slice.Iter.{iter_rest}
pub use Rattle.portal_rules.specs.Answer.{Act, Answer, Apply, Decision, Nothing, Publish, Render, Said, added}
pub use Rattle.portal_rules.specs.Answer.{already_placed, answer, applies, decision, is_open_to_rolls, moves_in}
pub use Rattle.portal_rules.specs.Answer.{moves_on, open_where, opens, refuses, to_lecturer, to_office, to_student}
pub use Rattle.portal_rules.specs.Answer.{unless_faulty, own, unwritten, emptied, HasWholeNumbers, answered, renders}
pub use Rattle.portal_rules.specs.Answer.{with_own}
pub use Rattle.portal_rules.specs.Bodies.{is_assigned, person, phase_body, projects_body, dictionary, several}
pub use Rattle.portal_rules.specs.Bodies.{students_at, texts_or_null, text_or_null, members, listing, round_member}
pub use Rattle.portal_rules.specs.Bodies.{status_body, applicants_body, placed_body, allocation_body, students_body}
pub use Rattle.portal_rules.specs.Bodies.{roll_body, filled_body}
pub use Rattle.portal_rules.specs.Faults.{ListFault, choice_fault, fault_at, in_catalogue, is_applicant, lacks_one}
pub use Rattle.portal_rules.specs.Faults.{ranking_fault, Faulty, RollRules, RollRefusal, Taken, Took, Verdict, Present}
pub use Rattle.portal_rules.specs.Faults.{New, Rejected, verdict_beside, verdict, there_after, with_row, lecturer_roll}
pub use Rattle.portal_rules.specs.Faults.{project_roll, student_roll, take_rows, AreFresh, or_later, first_wrong}
pub use Rattle.portal_rules.specs.Faults.{or_missing, wrong_choice, wrong_rank, NoneWrong, IsFirstWrong, with_new}
pub use Rattle.portal_rules.specs.Faults.{IsFirstRefused}
pub use Rattle.portal_rules.specs.Good.{Good, IsChoice, IsLecturer, IsProject, IsRanking, IsRound, IsStudent, Sound}
pub use Rattle.portal_rules.specs.Good.{codes_of, placed_to, placed_with, instance, instance_of, lecturer_keys}
pub use Rattle.portal_rules.specs.Good.{matching_of, places_of, project_keys, student_keys, KeepsCapacities, CanPublish}
pub use Rattle.portal_rules.specs.Heard.{ChangeSeen, Heard, HeardItem, SeenIf, Sees, is_move_or_add, replies_to}
pub use Rattle.portal_rules.specs.Heard.{Reordered, SameUpToListOrder, own_item, may_show, SameStudent, Asked, HeardOf}
pub use Rattle.portal_rules.specs.Heard.{IsMember, IsIdle, Empty, Front, Turn, Chain, SameWish, Equal, Sets, SameRequest}
pub use Rattle.portal_rules.specs.Heard.{shows_own_list, moves_to_published, Unless, AlikeUntilPublished}
pub use Rattle.portal_rules.specs.Meaning.{texts_of, change_model, call_model, decision_model}
pub use Rattle.portal_rules.specs.Run.{OpensSecond, AllAnswered, Answers, Calls, HasForm, NoCall, Request, Run, Serves}
pub use Rattle.portal_rules.specs.Run.{Step, StepLeaves, Wish, end_of, unavailable, OpensOnce}
pub use Rattle.portal_rules.specs.Calls.{AbstractCall, LecturerSees, OfficeSees, StudentSees}
pub use Rattle.portal_rules.specs.View.{Caller, LecturerCaller, NoCaller, OfficeCaller, StudentCaller, caller}
pub use Rattle.portal_rules.specs.View.{caller_among, catalogue, lecturer_sees, lecturer_with, listing_with, listings}
pub use Rattle.portal_rules.specs.View.{name_in, office_sees, persons, sight_of, student_sees, student_with, view}
pub use Rattle.portal_rules.specs.View.{IsShownAt, ShowsStill}
pub use Rattle.portal_rules.specs.Words.{AreDistinct, Key, Rise, equals, has, is_before, is_empty, put, put_all}
pub use Rattle.portal_rules.specs.Words.{is_code_byte}
pub use Rattle.portal_rules.specs.World.{count_at, count_with, Change, Choices, Fill, Lecturers, Placements, Projects}
pub use Rattle.portal_rules.specs.World.{Ranks, SecondRound, Students, To, changed, in_first, new_lecturer, new_student}
pub use Rattle.portal_rules.specs.World.{opened, placed_before, placement_in, ranked_before, with_choice, with_fill}
pub use Rattle.portal_rules.specs.World.{with_lecturers, with_place, with_projects, with_ranking, with_students, World}
pub use Rattle.portal_rules.specs.World.{applicants_of, applicants_to, first, first_placed, first_published, given_to}
pub use Rattle.portal_rules.specs.World.{given_with, has_result, in_play, is_at, is_choosing, is_from_ranking, is_left}
pub use Rattle.portal_rules.specs.World.{is_published, is_ranking, is_second, is_setup, is_still_to_rank, lecturer_key}
pub use Rattle.portal_rules.specs.World.{lecturers_in, lecturers_left, lowered_lecturer, lowered_project, pairs_of}
pub use Rattle.portal_rules.specs.World.{placed_at, project_key, projects_in, projects_left, projects_of}
pub use Rattle.portal_rules.specs.World.{shown_placement, student_key, students_in, students_left, pairs_with}
pub use Rattle.portal_rules.specs.declared.phase.Phase.{Phase}
pub use Rattle.portal_rules.specs.declared.phase.Phase.TheVariants.{Choosing, Published, Ranking, Setup}
pub use Rattle.portal_rules.specs.declared.phase.Round.{Round}
pub use Rattle.portal_rules.specs.declared.phase.Round.TheVariants.{First, Second}
pub use Rattle.portal_rules.specs.declared.rows.LecturerRow.{LecturerRow}
pub use Rattle.portal_rules.specs.declared.rows.Listing.{Listing}
pub use Rattle.portal_rules.specs.declared.rows.Person.{Person}
pub use Rattle.portal_rules.specs.declared.rows.ProjectRow.{ProjectRow}
pub use Rattle.portal_rules.specs.declared.rows.StudentRow.{StudentRow}
pub use Rattle.portal_rules.specs.declared.view.View.{View as Sight}
pub use Rattle.portal_rules.specs.declared.view.View.TheVariants.{Lecturer, Nobody, Office, Student}
pub use Rattle.portal_rules.specs.Alone.{alone, alone_lecturer, alone_student}
pub use Rattle.portal_rules.specs.inner.Room.{by_project, own_keys, pairs_among, project_left, lecturer_left, pairs_by}
pub use Rattle.portal_rules.specs.inner.Room.{room_of}
pub use Rattle.portal_rules.specs.inner.Tables.{HasKeys, HasRows, HasTexts}
pub use Rattle.serde_json.specs.Data.{Data, string}
pub use Rattle.serde_json.specs.View.{items_of, view as data_of}
pub use Rattle.spa_model.proofs.Numbers.{number_is, number_known}
pub use Rattle.spa_model.proofs.PairFaults.{count_by-map}
pub use Rattle.spa_model.specs.Pairs.{number_in}
pub use Rattle.spa_model.specs.Spa.{IsWith, Wants, Improves, IsBefore, IsAcceptable, IsBest, IsMatching, IsOn, IsStable}
pub use Rattle.spa_model.specs.Spa.{at_lecturer, at_project, is_lecturer, is_project, lecturer_of, place, project_of}
pub use Rattle.spa_model.specs.Spa.{choices_of, ranking_of, IsAsGood, IsDistinct, capacity_of, limit_of}
pub use Rattle.spa_rows.specs.inner.Index.{text_eq}
