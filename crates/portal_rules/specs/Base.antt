-- Names from below that the definitions use.
pub use Rattle.std.specs.List.{AllByRecursion, AllZip, filter_map, find, flat_map, join_by, list_all, list_any}
pub use Rattle.std.specs.Prelude.{List, Option, ℕ}
pub use Rattle.serde_json.specs.Data.{array, Data, member, Members, no_members, null, number, object, string, unsigned}
pub use Rattle.spa_model.specs.Pairs.{number_in}
pub use Rattle.spa_model.specs.Spa.{IsBest, IsStable, Spa}
pub use Rattle.portal_rules.specs.declared.phase.Phase.{Phase}
pub use Rattle.portal_rules.specs.declared.phase.Phase.TheVariants.{Choosing, Published, Ranking, Setup}
pub use Rattle.portal_rules.specs.declared.phase.Round.{Round}
pub use Rattle.portal_rules.specs.declared.phase.Round.TheVariants.{First, Second}
