-- Names from below that the proofs use.
pub use Rattle.std.proofs.Common.{All, Contains, Vec, drop, Bool, Bor, Err, IsTrue, List, None, Ok, Option, Some, []}
pub use Rattle.std.proofs.Common.{ap, arith, cond, eqb, false, get_or, inl, inr, length, map, refl, rules, subst, suc}
pub use Rattle.std.proofs.Common.{sym, take, true, zero, ℕ, ◌+◌, ◌<◌, ◌↔◌, ◌∙◌, ◌∷◌, ◌≡◌, ◌⊎◌, ◌++◌, Ordering, BTreeSet}
pub use Rattle.std.proofs.Common.{min, ◌≢◌, Result, IsOk, IsErrAnd, OnOk, IfErr, MatchOption, IsSortedByKey}
pub use Rattle.std.proofs.lemmas.Bool.{cases_lt, eqb-true, eq-eqb, ne_eqb, false≢true, and_parts, false_from_ne_true}
pub use Rattle.std.proofs.lemmas.Bool.Decides.{nat_tests}
pub use Rattle.std.proofs.lemmas.Cmp.{nat_list_cmp_total, tied_itself, nat_list_eq_equiv}
pub use Rattle.std.proofs.lemmas.List.{get_or_default, length-map, take_more, get_or_append_left, length-append}
pub use Rattle.std.proofs.lemmas.List.{get_or-map, length-take, get_or-take, length-drop, take_all}
pub use Rattle.std.proofs.lemmas.List.Sorted.{IsPermutation-sym, IsPermutation-map, Contains-permutation}
pub use Rattle.std.proofs.lemmas.List.Sorted.{length_permutation, ranks_by, answers_always}
pub use Rattle.std.proofs.lemmas.Slice.Eq.{bytes_eq-Decides}
pub use Rattle.std.specs.Cmp.Lexicographic.{slice_cmp}
pub use Rattle.std.specs.List.{list_all, IsDistinct}
pub use Rattle.std.specs.Ordering.{nat_cmp, is_eq, is_lt}
pub use Rattle.std.specs.Prelude.{Any, ⊤, if◌then◌else◌, not, is_some, IfSome, IfNone, nat_lt, IsPermutation, ◌==◌}
pub use Rattle.std.specs.Str.{IsUtf8, IsAscii, bytes_eq}
pub use Rattle.spa_rows.specs.Faults.{BadLecturer, BadProject, BadStudent, HasFault, HasNoneBefore, IsBadCapacity}
pub use Rattle.spa_rows.specs.Faults.{IsEarlierKey, IsFirstFault, IsKeyOf, IsRefusal, NamesNone, Repeats, number_of}
pub use Rattle.spa_rows.specs.Faults.{BadAt, BadBelow, IsOffered, FindsOne, IsApplicant, MissesOne}
pub use Rattle.spa_rows.specs.Limits.{longest_choice}
pub use Rattle.spa_rows.specs.Lines.{is_key, Rows, Text, is_key_byte, LecturerWithList, ProjectWithLecturer}
pub use Rattle.spa_rows.specs.Lines.{StudentWithList}
pub use Rattle.spa_rows.specs.declared.faults.InstanceFault.{InstanceFault}
pub use Rattle.spa_rows.specs.declared.faults.InstanceFault.TheVariants.{ApplicantMissing, BadCapacity, BadKey}
pub use Rattle.spa_rows.specs.declared.faults.InstanceFault.TheVariants.{KeyTwice, ListTooLong, Memory, NoSuchLecturer}
pub use Rattle.spa_rows.specs.declared.faults.InstanceFault.TheVariants.{NoSuchProject, NotApplicant, RepeatInList}
pub use Rattle.spa_rows.specs.declared.faults.InstanceFault.TheVariants.{TooMany}
pub use Rattle.spa_rows.specs.inner.Index.{IsIndexOf, text_eq, HasPlace, Differ}
pub use Rattle.spa_rows.specs.Numbers.{HasNumber, HaveNumbers, AreListNumbers}
pub use Rattle.spa_rows.specs.inner.Least.{IsLeastOf, IsLeastTold, least_row, lesser_row}
pub use Rattle.std.specs.Global.{Global}
pub use Rattle.std.specs.List.{AllZip, IsAnyAnswer}
pub use Rattle.std.proofs.lemmas.Slice.Zip.{AllZip-long, all_zipped_more}
