-- Names from below that the proofs use.
unfoldable pub use Rattle.csv.specs.Records.{field_at}
pub use Rattle.std.proofs.Common.{Bool, Bor, Err, IfOk, List, None, Ok, Result, Some, [], add-one, ap, append_assoc}
pub use Rattle.std.proofs.Common.{arith, cond, drop, false, get_or, inl, inr, length, map, not, refl, rules, subst, suc}
pub use Rattle.std.proofs.Common.{sym, take, true, zero, ℕ, ◌&&◌, ◌*◌, ◌++◌, ◌+◌, ◌<◌, ◌^◌, ◌∙◌, ◌∷◌, ◌≡◌, ◌≤◌, nat_le}
pub use Rattle.std.proofs.Common.{eqb, ◌⊎◌, ap₂, OnOk}
pub use Rattle.std.proofs.lemmas.Bool.{eqb-true, le-leb, lt-leb, cases_Bool}
pub use Rattle.std.proofs.lemmas.Bool.Decides.{nat_tests}
pub use Rattle.std.proofs.lemmas.List.{append-nil, drop_all, take_all, length-map, map-append}
pub use Rattle.std.proofs.lemmas.Result.{err_from_is_err_and}
pub use Rattle.std.specs.List.{cons_option, enumerate_from, filter_map, flat_map, list_all, position_from}
pub use Rattle.std.specs.List.{AllByRecursion, list_any}
pub use Rattle.std.specs.Prelude.{Option, ◌==◌, ◌≢◌, ◌||◌, if◌then◌else◌, codes, MatchResult, IsUtf8, Vec}
pub use Rattle.std.specs.Result.{result_err, result_ok, is_ok}
pub use Rattle.std.specs.Str.{is_utf8, bytes_eq}
pub use Rattle.csv.specs.Records.{fields_of}
pub use Rattle.csv.specs.Writing.{default_writer, row_text, needs_byte, field_text}
pub use Rattle.csv.specs.declared.reader.Reader.{Reader}
pub use Rattle.portal_rules.specs.Bodies.{csv_header, csv_record, student_fields, needs_quotes, doubled, csv_field}
pub use Rattle.portal_rules.specs.Bodies.{csv_text, project_given, project_fields}
pub use Rattle.portal_rules.specs.Calls.{OfficeSees}
pub use Rattle.portal_rules.specs.Words.{is_code, is_name}
pub use Rattle.portal_rules.specs.declared.rows.ProjectRow.{ProjectRow}
pub use Rattle.portal_rules.specs.declared.rows.StudentRow.{StudentRow}
pub use Rattle.portal_rolls.specs.Lines.{digits_value, is_capacity, unless_bad, is_number, lecturer, project, student}
pub use Rattle.portal_rolls.specs.Lines.{File, file_of, cut_at_blanks, with_front, list_of, by_columns, project_format}
pub use Rattle.portal_rolls.specs.Lines.{lecturer_format, student_format}
pub use Rattle.portal_rolls.specs.Reading.{Format, first_or, line_of, lines_of, reading, same_record, unless, Record}
pub use Rattle.portal_rolls.specs.Reading.{records_of}
pub use Rattle.portal_rolls.specs.Views.{Fails, Gives}
pub use Rattle.portal_rolls.specs.declared.fault.RollFault.{RollFault}
pub use Rattle.portal_rolls.specs.inner.AsRead.{capacity_in, formed, limited}
pub use Rattle.portal_rolls.specs.inner.Records.{Has, TakesRecord, rest_of, IsSetUp}
pub use Rattle.portal_rolls.specs.inner.Written.{HasWritten}
pub use Rattle.spa_rows.specs.Lines.{is_key, Text}
