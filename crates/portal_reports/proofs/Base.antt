-- Names from below that the proofs use.
unfoldable pub use Rattle.portal_reports.specs.Status.{number_line}
pub use Rattle.std.proofs.Common.{Bool, IsTrue, List, [], ap, append_assoc, arith, codes, decimal, false, length, refl}
pub use Rattle.std.proofs.Common.{rules, sym, take, true, ℕ, ◌++◌, ◌<◌, ◌∙◌, ◌∷◌, ◌≡◌, zero, suc, ◌+◌, ◌-◌, ◌≤◌}
pub use Rattle.std.proofs.Common.{replicate, append-nil, Vec, Global, get_or, subst}
pub use Rattle.std.proofs.lemmas.Bool.{and_parts, leb-true}
pub use Rattle.std.proofs.lemmas.Grind.{common_steps}
pub use Rattle.std.specs.Fmt.{styled_decimal, styled_text, format_spec, is_char_start}
pub use Rattle.std.specs.List.{flat_map, list_all, repeat}
pub use Rattle.std.specs.Prelude.{nat_le, nat_lt, ◌&&◌, if◌then◌else◌, ◌||◌, ◌==◌}
pub use Rattle.portal_rules.proofs.Pieces.{said, one_more}
pub use Rattle.portal_rules.specs.Bodies.{padded_left, padded_right, project_line, student_line, line_feed, students_at}
pub use Rattle.portal_reports.specs.inner.Labels.{is_short}
