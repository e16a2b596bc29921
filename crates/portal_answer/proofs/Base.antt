-- Names from below that the proofs use.
pub use Rattle.std.proofs.Common.{Bool, Err, List, None, Ok, Option, Result, Some, [], ap, append_assoc, arith, codes}
pub use Rattle.std.proofs.Common.{false, get_or, inl, inr, is_none, is_some, length, refl, rules, subst, sym, take}
pub use Rattle.std.proofs.Common.{true, ℕ, ◌++◌, ◌+◌, ◌<◌, ◌∙◌, ◌≡◌, ◌≤◌, ◌==◌, if◌then◌else◌, ◌⊎◌, zero, suc, ◌∷◌}
pub use Rattle.std.proofs.lemmas.List.{take_more, append-nil, take_all, ext_get_or}
pub use Rattle.std.specs.Fmt.{decimal}
pub use Rattle.std.specs.List.{count_by, flat_map, zip}
pub use Rattle.std.specs.String.{string_bytes}
pub use Rattle.portal_answer.specs.Answer.{IfLonger, IsAnswer, OfPairs, OfRead, OfMatching, refused_instance, Text}
pub use Rattle.portal_answer.specs.Answer.{Output}
pub use Rattle.portal_answer.specs.Answer.{assign_line, refused_file, refused_matching, blocking, assignment, OfFile}
pub use Rattle.portal_answer.specs.Answer.{file_rows, limit, block_line, refusal}
pub use Rattle.portal_answer.specs.declared.answer.Task.{Task}
pub use Rattle.portal_answer.specs.declared.answer.Task.TheVariants.{Check, Solve}
pub use Rattle.portal_rolls.specs.Lines.{File, rows}
pub use Rattle.portal_rolls.specs.declared.fault.RollFault.{RollFault}
pub use Rattle.spa_model.specs.Spa.{Spa, Blocks, project_of, IsLawful}
pub use Rattle.spa_rows.specs.Lines.{Pair, Rows}
pub use Rattle.spa_rows.specs.declared.faults.InstanceFault.{InstanceFault}
