-- Names from below that the proofs use.
pub use Rattle.std.proofs.Common.{Bool, List, None, Option, Some, [], ap, arith, cond, eqb, false, get_or, inl, inr}
pub use Rattle.std.proofs.Common.{length, length-set, refl, replicate, rules, set, subst, suc, sym, true, zero, ℕ, ◌+◌}
pub use Rattle.std.proofs.Common.{◌<◌, ◌∙◌, ◌∷◌, ◌≡◌, ◌≢◌, ◌≤◌, ◌⊎◌, ◌↔◌, ◌-◌, ltb, ◌&&◌, ◌||◌, not, Ordering}
pub use Rattle.std.proofs.Common.{map, take}
pub use Rattle.std.proofs.lemmas.Bool.{cases_Bool, cases_eq, cases_lt, cases_order, eq-eqb, eqb-true, ne_eqb, ltb-true}
pub use Rattle.std.proofs.lemmas.Bool.{ltb-false, and_parts, or_cases, lt-ltb, true_from_ne_false, false_from_ne_true}
pub use Rattle.std.proofs.lemmas.List.{get_or-map, get_or-set_other, get_or-set_same, get_or-take, get_or_past}
pub use Rattle.std.proofs.lemmas.List.{length-map, length-take}
pub use Rattle.std.specs.Cmp.Lexicographic.{slice_cmp}
pub use Rattle.std.specs.List.{count_by, list_all, list_any}
pub use Rattle.std.specs.Ordering.{nat_cmp, is_lt}
pub use Rattle.std.specs.Prelude.{AllPairs}
pub use Rattle.std.specs.declared.cmp.Ordering.TheVariants.{Less}
pub use Rattle.spa_honest.specs.Honest.{GivesRoom, places_among, places_with, IsBusy, IsTaken, MorePlacesNeverHarm}
pub use Rattle.spa_honest.specs.Honest.{with_room, DifferInLists, DifferInOneList, HasRoom, NobodyGains, AssignTheSame}
pub use Rattle.spa_honest.specs.Honest.{IsNoWorse, first_with, IsAsGoodFor, with_rankings, NoRankingPays, IsCut}
pub use Rattle.spa_honest.specs.ByNumber.{AddsTo}
pub use Rattle.spa_honest.specs.examples.Example.{ann, bells, cem, example, honest_list, kites, safe_list, short_list}
pub use Rattle.spa_honest.specs.examples.Example.{tides}
pub use Rattle.spa_model.proofs.Counts.{count_by-cons, count_by-lt, one_if, sum_below, sum_below-lt, count_by-le}
pub use Rattle.spa_model.proofs.Counts.{sum_below-le, sum_below-add, sum_below-same, sum_below-zero, sum_below-one}
pub use Rattle.spa_model.proofs.Counts.{share, at_lecturer-sum, count_by-set}
pub use Rattle.spa_model.proofs.PairFaults.{count_by-map}
pub use Rattle.spa_model.proofs.OneOnly.{blocks_wants}
pub use Rattle.spa_model.proofs.Places.{place-injective, get_or-place, place-get_or-le, place-get_or}
pub use Rattle.spa_model.specs.Spa.{Blocks, Improves, IsAcceptable, IsAsGood, IsBefore, IsBest, IsDistinct, IsLawful}
pub use Rattle.spa_model.specs.Spa.{IsMatching, IsOn, IsStable, Spa, Wants, at_lecturer, at_project, capacity_of}
pub use Rattle.spa_model.specs.Spa.{choices_of, is_lecturer, lecturer_of, limit_of, place, project_of, ranking_of}
pub use Rattle.spa_model.specs.Spa.{IsWith, SomeWorseWith, is_project, TextsRise}
pub use Rattle.spa_model.specs.declared.letter.Letter.{Letter}
pub use Rattle.spa_model.specs.declared.letter.Letter.TheVariants.{A, B, C}
pub use Rattle.spa_student.proofs.CutSteps.{acceptable_in_range}
pub use Rattle.spa_student.proofs.Machine.{best_at_end, delete_holds, place_holds, spent_unblocked, put_cases, put_on}
pub use Rattle.spa_student.proofs.Machine.{put_same, ranked_of, student_in_range, no_more, swap_at_project_holds}
pub use Rattle.spa_student.proofs.Machine.{swap_at_lecturer_holds, as_good_as_stable, blocked, put_at_project}
pub use Rattle.spa_student.proofs.Machine.{put_at_lecturer, is_project-at, project_from_test}
pub use Rattle.spa_student.proofs.Start.{nobody_matches}
pub use Rattle.spa_student.specs.inner.Machine.{IsProvisional, IsRanked, IsSpent, rank_of}
