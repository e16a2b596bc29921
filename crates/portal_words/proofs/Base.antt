-- Names from below that the proofs use.
pub use Rattle.std.proofs.Common.{◌≡◌, ◌∙◌, false, ap, ap₂, ◌&&◌, Bool, true, not, Option, Some, None, List, [], ◌∷◌}
pub use Rattle.std.proofs.Common.{refl, sym, subst, inl, inr, codes, rules, map, arith}
pub use Rattle.std.proofs.lemmas.Result.{IfErr-weaker, IfOk-weaker}
pub use Rattle.clap.specs.Words.{AddsArg, AddsSubcommand, App, Rule, rule_of, with_rule, with_subcommand, Row, Text}
pub use Rattle.clap.specs.Words.{is_simple, subcommand_of, takes, found_of}
pub use Rattle.portal_words.specs.inner.Arguments.{Reads, AsksFile, MeetsFile, TakesFile, portal_app, top_app}
pub use Rattle.portal_words.specs.inner.Arguments.{AsksDatabase, MeetsDatabase}
pub use Rattle.portal_words.specs.Line.{TakesDatabase}
