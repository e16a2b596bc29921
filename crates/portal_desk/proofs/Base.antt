-- Names from below that the proofs use.
pub use Rattle.std.proofs.Common.{Bool, List, [], add-one, ap, append-nil, append_assoc, arith, drop, false, get_or}
pub use Rattle.std.proofs.Common.{inl, inr, length, map, refl, rules, subst, sym, take, true, ℕ, ◌++◌, ◌+◌, ◌-◌, ◌<◌}
pub use Rattle.std.proofs.Common.{◌∙◌, ◌∷◌, ◌≡◌, ◌≤◌, ◌*◌}
pub use Rattle.std.proofs.Math.Seq.{drop-cons, take-append-add, take-suc}
pub use Rattle.std.proofs.lemmas.Bool.{both_ways, leb-true, leb-false}
pub use Rattle.std.proofs.lemmas.List.{length-append, length-drop, take-append-drop, length-take-le, map-append}
pub use Rattle.std.specs.Io.KnownBytes.{Appends, Keeps}
pub use Rattle.std.specs.List.{AllZip, AllByRecursion}
pub use Rattle.std.specs.Prelude.{◌⊎◌, None, Option, Some, if◌then◌else◌, nat_le, ◌||◌, IsTrue, ◌≢◌, IfErr, Result, Ok}
pub use Rattle.std.specs.Prelude.{Err, IfSome, is_none}
pub use Rattle.portal_rules.specs.Answer.{Answer, Apply, Decision, Nothing, decision, Act, Publish, Render, Said, Json}
pub use Rattle.portal_rules.specs.Answer.{Unavailable, emptied, open_where, unless_faulty, added, row_fault}
pub use Rattle.portal_rules.specs.Answer.{already_placed, moves_on, opens, moves_in, moves, publishes, is_open_to_rolls}
pub use Rattle.portal_rules.specs.Answer.{to_student, to_lecturer, to_office}
pub use Rattle.portal_rules.specs.Good.{Good, instance, matching_of, CanPublish}
pub use Rattle.portal_rules.specs.Keeping.{KeeperState, StaysClean, LastsOrBreaks, IsSettled, IsAlive, LeavesBy}
pub use Rattle.portal_rules.specs.Keeping.{CountsFaults, AfterCall, Looks, Changes}
pub use Rattle.portal_rules.specs.Meaning.{call_model, decision_model, reply_model}
pub use Rattle.portal_rules.specs.Run.{AllAnswered, Request, Run, Serves, Step, end_of, Request as Wanted, unavailable}
pub use Rattle.portal_rules.specs.Run.{HasForm, StepLeaves, Wish, Calls, NoCall, Answers}
pub use Rattle.portal_rules.specs.Calls.{AbstractCall, StudentSees, LecturerSees, OfficeSees}
pub use Rattle.portal_rules.specs.View.{view}
pub use Rattle.portal_rules.specs.Words.{Key, equals, is_empty}
pub use Rattle.portal_rules.specs.World.{World, is_setup, Placements, changed, is_choosing, is_ranking, is_from_ranking}
pub use Rattle.portal_rules.specs.World.{has_result, Change, Lecturers, Projects, Students, Fill, is_published}
pub use Rattle.portal_rules.specs.declared.view.View.{View as Sight}
pub use Rattle.portal_rules.specs.inner.Room.{pairs_by}
pub use Rattle.portal_desk.specs.Session.{Finish, Ended, Stopped, TellsExchanges, Session, IsSession, SomeSession, ServesOne}
pub use Rattle.portal_desk.specs.Headline.{exchanges_of, visits_of, IsLikeAll, ServesAnswered, texts_to, AlikeTexts, AreServedOn, left_by}
pub use Rattle.portal_desk.specs.Headline.{IsServed, IsUnseen, AreUnseen, PublishesBest, IsUpheld, MainPromise, HasPromise}
pub use Rattle.portal_desk.specs.Kept.{Acted, MayLeave, FailsByCount, Moves, IsMoved, Worked, MayReach, DeskState}
pub use Rattle.portal_desk.specs.Kept.{TakesAtMost}
pub use Rattle.portal_desk.specs.declared.served.Cause.{Cause}
pub use Rattle.portal_desk.specs.inner.Play.{CanDo, IsSolved, with_sheet}
pub use Rattle.portal_desk.specs.Served.{ServesEach, ServeWhole}
pub use Rattle.portal_desk.specs.inner.Reading.{Follows, Heads, NoneWhole, ReadsMore, KeepsStream, IsWithin}
pub use Rattle.portal_desk.specs.inner.Turns.{Broke, Partly, Replied}
pub use Rattle.portal_frame.specs.Stream.{RequestContent, Opens, Faulty, is_head, refusal_content, request_content}
pub use Rattle.portal_frame.specs.Stream.{Whole, Framed, IsWithinLimits}
pub use Rattle.portal_frame.specs.Stream.{Over, item_of, after_lines, asked_of, fields_of, body_length, RefusalContent}
pub use Rattle.portal_frame.specs.declared.types.Frame.{Frame}
pub use Rattle.portal_frame.specs.Stream.{request_limit}
pub use Rattle.portal_wire.specs.Conversation.{connection_limit}
pub use Rattle.portal_desk.specs.Kept.{taken_limit}
pub use Rattle.portal_wire.proofs.Exist.{not_headless, shut_ends}
pub use Rattle.portal_wire.specs.Conversation.{Exchange, Leads, Rest, requests_of, closes_at, exchange_text, More}
pub use Rattle.portal_wire.specs.Conversation.{request_of, Shut, text, replies_of, reply_text, Reaches, Last, last}
