-- Names from below that the proofs use.
pub use Rattle.std.proofs.Common.{Contains, List, MatchOption, None, Option, Some, [], ap, arith, eqb, false, get_or}
pub use Rattle.std.proofs.Common.{inl, inr, length, refl, rules, sym, take, ℕ, ◌+◌, ◌<◌, ◌↔◌, ◌∙◌, ◌∷◌, ◌≡◌, ◌≤◌, ◌⊎◌}
pub use Rattle.std.proofs.Common.{zero, suc, Bool, true, not, cond, ltb, nat_le, max, set, ◌++◌, MatchOption, is_some}
pub use Rattle.std.proofs.Common.{◌-◌, tests}
pub use Rattle.std.proofs.lemmas.Bool.{cases_lt, ltb-false, le-leb, leb-true, cases_eq, eq-eqb, ne_eqb, ltb-true}
pub use Rattle.std.proofs.lemmas.List.{get_or_default, length-take-le, get_or-take, take_all, length-set}
pub use Rattle.std.proofs.lemmas.List.{get_or-set_same, get_or-set_other}
pub use Rattle.std.proofs.lemmas.List.Elements.{All-contains, All-contains_itself, All-filter, filter_passes, All-push}
pub use Rattle.std.proofs.lemmas.List.Elements.{All-weaker, Contains-append_left, Contains-push, Contains-get_or}
pub use Rattle.std.specs.List.{position, position_or_len, filter}
pub use Rattle.spa_check.specs.Listed.{IsEarlier, IsBetterOff, IsFirstBetterOff}
pub use Rattle.spa_check.specs.declared.groups.Group.{Group}
pub use Rattle.spa_check.specs.inner.Groups.{AreBlocksBefore, IsGroup, not_below, IsLeastIn, IsPassed}
pub use Rattle.spa_model.specs.Spa.{Blocks, IsBefore, IsWith, SomeWorseWith, Spa, Wants, at_lecturer, choices_of}
pub use Rattle.spa_model.specs.Spa.{lecturer_of, place, project_of, ranking_of, Improves, IsAcceptable, IsOn, IsLawful}
pub use Rattle.spa_model.specs.Spa.{IsMatching, is_project, is_lecturer, at_project, limit_of}
pub use Rattle.spa_model.specs.declared.letter.Letter.{Letter}
