-- Names from below that the proofs use.
pub use Rattle.std.proofs.Common.{◌≡◌, ◌∙◌, ◌<◌, ◌≤◌, ◌+◌, ◌++◌, ℕ, [], ◌∷◌, length, Option, Some, None, Result, Ok, Err}
pub use Rattle.std.proofs.Common.{IfOk, take, drop, refl, sym, ap, subst, inl, inr, arith, length-append, ◌⊎◌, ◌≢◌, Bool}
pub use Rattle.std.proofs.Common.{true, false, not, cond, eqb, ◌==◌, ◌&&◌, nat_le, codes}
pub use Rattle.std.proofs.lemmas.Bool.{cases_lt, lt-ltb, ne_eqb}
pub use Rattle.std.proofs.lemmas.List.{take_all, take-append-le, append-nil, length-take}
pub use Rattle.std.specs.Io.KnownBytes.{Consumes, IsAtEnd, Appends, Keeps}
pub use Rattle.std.specs.Prelude.{IfErr, IfSome, OnOk, MatchResult}
pub use Rattle.portal_answer.specs.Answer.{Text, Output, IfLonger, IsAnswer}
pub use Rattle.portal_run.specs.Run.{ConsumesAtMost, WritesAnswer, AnswersSome}
pub use Rattle.portal_run.specs.Lines.{FailsToWrite, Says, refusal, fault, success}
pub use Rattle.portal_run.specs.inner.Taken.{AppendsFront, IsEnough, TakesFront, TakesMore}
