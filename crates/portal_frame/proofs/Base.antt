-- Names from below that the proofs use.
unfoldable pub use Rattle.httparse.specs.Grammar.{is_token_byte, print_request}
pub use Rattle.std.proofs.Common.{Bool, List, [], ap, append_assoc, arith, drop, false, inl, inr, length, refl, rules}
pub use Rattle.std.proofs.Common.{subst, sym, take, true, zero-add, ℕ, ◌++◌, ◌+◌, ◌-◌, ◌<◌, ◌^◌, ◌∙◌, ◌∷◌, ◌≡◌, ◌≤◌}
pub use Rattle.std.proofs.Common.{append-nil, ◌*◌, slice_index_or, add-one}
pub use Rattle.std.proofs.lemmas.Bool.{eqb-true, ltb-false, le-leb, cases_lt, leb-true, cases_Bool}
pub use Rattle.std.proofs.lemmas.Grind.{common_steps}
pub use Rattle.std.proofs.lemmas.List.{length-append, take-append-drop, take-append-le, drop-append-le, drop-drop}
pub use Rattle.std.proofs.lemmas.List.{length-take-le, length-take, length-map, take_all}
pub use Rattle.std.proofs.lemmas.List.Elements.{All-cons, All-nil, All-head, All-tail}
pub use Rattle.std.specs.Char.{is_ascii_digit, digit_value}
pub use Rattle.std.specs.List.{All, flat_map, AllByRecursion, list_all}
pub use Rattle.std.specs.Prelude.{IsTrue, Ok, Result, codes, if◌then◌else◌, map, nat_le, nat_lt, ◌&&◌, ◌==◌, Err, ◌||◌}
pub use Rattle.std.specs.Prelude.{min}
pub use Rattle.std.specs.Str.Parse.{digits_value}
pub use Rattle.httparse.proofs.GrammarLemmas.{ReadsRequest-append, print_request-append, request_unique}
pub use Rattle.httparse.specs.Grammar.{Field, HasNoRequest, IsField, IsRequestHead, LineEnd, RequestHead, crlf}
pub use Rattle.httparse.specs.Grammar.{is_uri_byte, lf, print_blank, print_end, print_section, print_version}
pub use Rattle.httparse.specs.Grammar.{ReadsRequest, print_field, AllPass, is_value_byte, MayBecomeRequest}
pub use Rattle.httparse.specs.Grammar.{NeverHasRequest, skip_ows}
pub use Rattle.httparse.specs.Spans.{RequestOverflows, header_bytes, IsRequestAt, IsRequestWithin, name_and_value}
pub use Rattle.httparse.specs.Spans.{RequestExceeds}
pub use Rattle.portal_frame.specs.Stream.{head_limit, line_limit, body_limit, request_limit, path_of, values_of}
pub use Rattle.portal_frame.specs.Stream.{header_lines, RequestContent, Opens, asked_of, body_length, Faulty}
pub use Rattle.portal_frame.specs.Stream.{fields_of}
pub use Rattle.portal_frame.specs.Stream.{headless, is_blank, item_of, Whole, is_length, has_bad_host, is_empty}
pub use Rattle.portal_frame.specs.Stream.{length_of, RefusalContent, Takes, HasNoHead, Over, after_lines}
pub use Rattle.portal_frame.specs.Stream.{is_head}
pub use Rattle.portal_frame.specs.Stream.{is_overlong, is_empty_line, lines_after, without_leading, before_empty, Item}
pub use Rattle.portal_frame.specs.Stream.{only, closes_after, later_close, asks_close, up_to}
pub use Rattle.portal_frame.specs.declared.counting.At.TheVariants.{Fresh, Inside, Leading, LeadingCr, FreshCr}
pub use Rattle.portal_frame.specs.declared.types.FramingFault.{FramingFault}
pub use Rattle.portal_frame.specs.inner.Counting.{lines_from, IsHead, step, stops, counts, IsFound}
