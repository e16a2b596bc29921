-- Names from below that the proofs use.
pub use Rattle.std.proofs.Common.{Vec, All, Any, Bool, Contains, Equal, Greater, IsTrue, Less, List, None, Option}
pub use Rattle.std.proofs.Common.{Ordering, Some, [], ap, arith, cond, eqb, false, get_or, inl, inr, length, map, refl}
pub use Rattle.std.proofs.Common.{rules, set, subst, suc, sym, take, true, zero, ℕ, ◌++◌, ◌+◌, ◌<◌, ◌↔◌, ◌∙◌, ◌∷◌, ◌≡◌}
pub use Rattle.std.proofs.Common.{◌≢◌, ◌≤◌, ◌⊎◌, ◌-◌, ltb, IsSortedByKey, IfSome, Ok, Err}
pub use Rattle.std.proofs.lemmas.Bool.{leb-true, le-leb, ltb-true, lt-ltb, cases_Bool, cases_eq, cases_lt, eq-eqb}
pub use Rattle.std.proofs.lemmas.Bool.{eqb-true, false≢true, ne_eqb, true≢false, true_from_ne_false}
pub use Rattle.std.proofs.lemmas.Bool.Decides.{Decides-eqb, nat_tests}
pub use Rattle.std.proofs.lemmas.Cmp.{nat_list_cmp_total, tied_itself, nat_list_eq_equiv}
pub use Rattle.std.proofs.lemmas.Fn.{always_returns_same}
pub use Rattle.std.proofs.lemmas.List.{ext_get_or, get_or-map, get_or-set_other, get_or-set_same, get_or-take}
pub use Rattle.std.proofs.lemmas.List.{get_or_default, get_or_past, length-map, length-set, length-take, length-take-le}
pub use Rattle.std.proofs.lemmas.List.{take_all, take_more, take-map}
pub use Rattle.std.proofs.lemmas.List.Folds.{Any-from_list_any, list_any-from_Any}
pub use Rattle.std.proofs.lemmas.List.Sorted.{searchable_from_sorted, All-permutation, IsPermutation-sym}
pub use Rattle.std.proofs.lemmas.List.Sorted.{length_permutation, ranks_by, sorted_far}
pub use Rattle.std.proofs.lemmas.List.Sums.{count_by-le-length, count_by_more_no, sum_by-cons, position_or_len_is}
pub use Rattle.std.proofs.lemmas.List.Sums.{passes_at_first, fails_before_first, count_by_more_yes, sum_by-set}
pub use Rattle.std.proofs.lemmas.List.Sums.{sum_by_push}
pub use Rattle.std.proofs.lemmas.Map.Made.{IsDistinct-from_AllPairs, is_member-Decides, length-le_from_is_member}
pub use Rattle.std.proofs.lemmas.Result.{on_ok_weaker, err_from_is_err_and, MatchResult-weaker}
pub use Rattle.std.proofs.lemmas.Slice.Eq.{bytes_eq-Decides}
pub use Rattle.std.proofs.lemmas.Slice.Zip.{AllZip-long, all_zipped_more}
pub use Rattle.std.specs.Cmp.Lexicographic.{slice_cmp}
pub use Rattle.std.specs.List.{AllPairs, AllZip, count_by, IsAnyAnswer, list_any, AllByRecursion}
pub use Rattle.std.specs.Ordering.{is_lt, nat_cmp, is_eq, ordering_reverse}
pub use Rattle.std.specs.Prelude.{not, ◌||◌, nat_le, IfNone}
pub use Rattle.std.specs.Str.{bytes_eq}
pub use Rattle.spa_model.specs.Pairs.{AreSound, HasNone, HasPairs, lecturer_in, number_in, project_in, student_in}
pub use Rattle.spa_model.specs.Pairs.{HasKey, IsInstanceOf, StandsFor, StandsLecturer, StandsProject, StandsStudent}
pub use Rattle.spa_model.specs.Pairs.{keys_at, HasPairFault, number_of_pair_fault, IsPairRefusal}
pub use Rattle.spa_model.specs.Spa.{IsAcceptable, IsDistinct, IsLawful, IsMatching, IsOn, TextsRise, Spa, at_lecturer}
pub use Rattle.spa_model.specs.Spa.{at_project, capacity_of, choices_of, is_lecturer, is_project, lecturer_of, limit_of}
pub use Rattle.spa_model.specs.Spa.{place, project_of, ranking_of, rank_in, Blocks, IsAsGood, IsBest}
pub use Rattle.spa_model.specs.declared.instance.Lecturer.{Lecturer}
pub use Rattle.spa_model.specs.declared.instance.Project.{Project}
pub use Rattle.spa_model.specs.declared.instance.Student.{Student}
pub use Rattle.spa_model.specs.declared.matching.MatchingFault.{MatchingFault}
pub use Rattle.spa_model.specs.declared.matching.MatchingFault.TheVariants.{LecturerOver, NoSuchProject, NoSuchStudent}
pub use Rattle.spa_model.specs.declared.matching.MatchingFault.TheVariants.{NotAcceptable, ProjectOver, StudentTwice}
pub use Rattle.spa_model.specs.inner.Fitting.{AreAssigned, AreAcceptable}
pub use Rattle.spa_model.specs.inner.Numbers.{AreKeysOf, AreNumbers, Finds, IsApplicantOf, IsLecturerOf, IsProjectOf}
pub use Rattle.spa_model.specs.inner.Numbers.{IsStudentOf, Misses, MissesBelow, choices_at, lecturer_of_row}
pub use Rattle.spa_model.specs.inner.Numbers.{keys_of_lecturers}
pub use Rattle.spa_model.specs.inner.Numbers.{keys_of_projects, rank_at, row_at, keys_of_students, rows_of}
pub use Rattle.spa_model.specs.inner.Numbers.{IsApplicantNumber}
pub use Rattle.spa_model.specs.inner.Numbers.{numbers_at}
pub use Rattle.spa_rows.proofs.Carry.{SameLines, none_before_carry, same_lines_sym, first_fault_carry}
pub use Rattle.spa_rows.proofs.FirstFault.{handed_on, refuse_ok, refuse_err}
pub use Rattle.spa_rows.proofs.LeastRow.{alike, least_all, least_step, least_either}
pub use Rattle.spa_rows.proofs.Lists.{at_place, map_at}
pub use Rattle.spa_rows.specs.Faults.{HasFault, HasNoneBefore, IsKeyOf, IsRefusal, NamesNone, Repeats, BadAt, BadBelow}
pub use Rattle.spa_rows.specs.Faults.{IsEarlierKey, IsBadCapacity, FindsOne, IsApplicant}
pub use Rattle.spa_rows.specs.Limits.{most_lecturers, most_projects, most_students, longest_choice, most_places}
pub use Rattle.spa_rows.specs.Lines.{Pair, Rows, Text, is_key}
pub use Rattle.spa_rows.specs.declared.faults.InstanceFault.TheVariants.{ApplicantMissing, BadCapacity, BadKey}
pub use Rattle.spa_rows.specs.declared.faults.InstanceFault.TheVariants.{KeyTwice, ListTooLong, Memory, NoSuchLecturer}
pub use Rattle.spa_rows.specs.declared.faults.InstanceFault.TheVariants.{NotApplicant, RepeatInList, TooMany}
pub use Rattle.spa_rows.specs.inner.Least.{IsLeastOf, lesser_row}
pub use Rattle.spa_rows.specs.Numbers.{AreListNumbers, HasNumber, HaveNumbers}
pub use Rattle.std.specs.Global.{Global}
