-- Names from below that the proofs use.
pub use Rattle.std.proofs.Common.{List, None, Option, Some, [], ap, arith, eqb, get_or, inl, inr, length, length-set}
pub use Rattle.std.proofs.Common.{map, refl, replicate, rules, set, subst, suc, sum, sym, take, ℕ, ◌+◌, ◌-◌, ◌<◌, ◌∙◌}
pub use Rattle.std.proofs.Common.{◌≡◌, ◌≢◌, ◌≤◌, ◌⊎◌, ◌∷◌, Vec, Global, true, zero, IfSome, MatchOption}
pub use Rattle.std.proofs.lemmas.Bool.{cases_eq, cases_lt, eqb-true, eq-eqb, ne_eqb, cases_Bool, cases_order, iff_false}
pub use Rattle.std.proofs.lemmas.List.{get_or-replicate, get_or-set_other, get_or-set_same, get_or_past, get_or_read}
pub use Rattle.std.proofs.lemmas.List.{length-replicate, get_or-map, length-map}
pub use Rattle.std.proofs.lemmas.List.Sums.{sum_by-set, sum_by-cons, count_by-le-length}
pub use Rattle.std.specs.List.{count_by}
pub use Rattle.std.specs.Prelude.{false, Bool}
pub use Rattle.spa_model.proofs.Counts.{count_by-set, count_by-lt, one_if, off_project, count_by-le, sum_below}
pub use Rattle.spa_model.proofs.Counts.{sum_below-lt, share, at_lecturer-sum, count_by-cons}
pub use Rattle.spa_model.proofs.Places.{place-injective, get_or-place, place-get_or, place-get_or-le}
pub use Rattle.spa_model.specs.Spa.{IsAcceptable, IsBefore, IsBest, IsDistinct, IsLawful, IsMatching, IsWith, Spa}
pub use Rattle.spa_model.specs.Spa.{at_lecturer, at_project, capacity_of, choices_of, is_lecturer, is_project}
pub use Rattle.spa_model.specs.Spa.{lecturer_of, limit_of, place, project_of, ranking_of, IsOn, Improves, Wants, Blocks}
pub use Rattle.spa_model.specs.Spa.{IsStable, IsAsGood}
pub use Rattle.spa_student.specs.declared.cuts.Progress.{Progress}
pub use Rattle.spa_student.specs.inner.Cuts.{IsFree, IsPastCut, IsPlacedOrExhausted, IsUnderWay, Puts, IsCut, IsUncut}
pub use Rattle.spa_student.specs.inner.Cuts.{AreCounts}
pub use Rattle.spa_student.specs.inner.Cuts.{AreMarks, IsNextEntry, KeepsCuts, Leaves, Exchanges}
pub use Rattle.spa_student.specs.inner.Machine.{IsProvisional, LecturerSpent, ProjectSpent, rank_of, IsRanked, IsSpent}
pub use Rattle.spa_student.specs.inner.Worst.{IsWorstWith, IsWorstAt}
