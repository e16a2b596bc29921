-- Names from below that the proofs use.
unfoldable pub use Rattle.matchit.proofs.OnLiterals.{matchit_on_literals}
unfoldable pub use Rattle.portal_wire.specs.Wish.{route_at, the_paths}
unfoldable pub use Rattle.portal_wire.specs.inner.RouteRows.{the_rows}
pub use lib.Pointwise.{bytes_decides}
pub use Rattle.std.proofs.Common.{Bool, List, [], ap, arith, drop, false, length, map, refl, rules, subst, suc, sym}
pub use Rattle.std.proofs.Common.{true, zero, ℕ, ◌++◌, ◌-◌, ◌<◌, ◌∙◌, ◌∷◌, ◌≡◌, ◌≤◌, cond, inl, inr, take, append_assoc}
pub use Rattle.std.proofs.Common.{below_more}
pub use Rattle.std.proofs.lemmas.Bool.{ne_eqb, and_parts, ltb-true, eqb-true, eq-eqb}
pub use Rattle.std.proofs.lemmas.List.{take-append-drop, length-append, length-map}
pub use Rattle.std.proofs.lemmas.Str.{IsUtf8-from_is_utf8, is_utf8-from_IsUtf8, IsUtf8-from_ascii}
pub use Rattle.std.specs.Bool.{MatchBool}
pub use Rattle.std.specs.Prelude.{IsUtf8, None, Option, Some, String, codes, if◌then◌else◌, option_map, IsTrue, ◌==◌}
pub use Rattle.std.specs.Prelude.{◌&&◌, nat_lt, slice_index, Ok, Err, nat_le, ◌||◌, IfSome, IfNone}
pub use Rattle.std.specs.Str.{bytes_eq, is_utf8}
pub use Rattle.std.specs.declared.alloc.Global.{Global}
pub use Rattle.matchit.specs.Rows.{RowsOf, param_token, catch_all_token}
pub use Rattle.matchit.specs.Seek.{step, own, or_else, has_slash, first}
pub use Rattle.portal_rules.specs.Run.{Request}
pub use Rattle.portal_frame.specs.Stream.{RequestContent, Item, Opens, Faulty, Over, Whole, RefusalContent, asked_of}
pub use Rattle.portal_frame.specs.Stream.{after_lines}
pub use Rattle.portal_frame.specs.Stream.{body_length, fields_of, is_head}
pub use Rattle.portal_wire.specs.Conversation.{End, Ends, Last, Leads, Refused, Rest, closes_at, More, request_of, Shut}
pub use Rattle.portal_wire.specs.Conversation.{reply_text, Closed, Limit}
pub use Rattle.portal_wire.specs.Wish.{answer_to, method_of, look_up, members_len, member_among, phase_of, empty_object}
pub use Rattle.portal_wire.specs.Wish.{item_texts, json_in}
pub use Rattle.portal_wire.specs.declared.routes.Route.{Route}
pub use Rattle.serde_json.specs.Data.{object, Data, Members}
pub use Rattle.serde_json.specs.View.{members_view, view, members_of, items_view}
pub use Rattle.serde_json.specs.declared.value.Value.{Value, the_lemmas}
