-- Names from below that the proofs use.
pub use Rattle.std.proofs.Common.{◌≡◌, Bool, true, false, if◌then◌else◌, ℕ, List, Option, Some, None, ◌∙◌, ◌+◌, ◌≤◌, []}
pub use Rattle.std.proofs.Common.{◌∷◌, ◌++◌, length, length-append, Result, Ok, Err, refl, sym, ap, subst, arith, rules}
pub use Rattle.portal_serve.specs.Hall.{office_report, is_own_fault, is_store_cause, is_store_fault, EndsBy}
pub use Rattle.portal_serve.specs.Hall.{StillWorks, CountsOutcomes}
pub use Rattle.portal_serve.specs.inner.Outcomes.{is_faulty}
pub use Rattle.portal_serve.specs.inner.Told.{IsOfficeReport}
pub use Rattle.portal_serve.specs.Streams.{Connection, Drops, dropped_after, dropped_limit, Passes, Series}
pub use Rattle.portal_serve.specs.Streams.{ServesAll, ServesInTurn, ServesStream}
pub use Rattle.portal_desk.specs.Session.{ServesOne, Settles, FailsBy}
pub use Rattle.portal_desk.specs.Kept.{DeskState, Worked}
pub use Rattle.portal_rules.specs.Keeping.{KeeperState}
