-- What is read of a request, and how it is told.
use Rattle.std.specs.Prelude.{◌≡◌, Option, Some, None, Result, Ok, Err, Bool, if◌then◌else◌}
use Rattle.portal_wire.specs.declared.bodies.BodyFault.{BodyFault}
use Rattle.portal_wire.specs.declared.bodies.BodyFault.TheVariants.{Bad, Memory}
use Rattle.portal_rules.specs.declared.decision.Call.{Call}
use Rattle.portal_rules.specs.Meaning.{call_model}
use Rattle.portal_rules.specs.Run.{Wish, Calls}
use Rattle.portal_frame.specs.Stream.{RefusalContent}
use Rattle.portal_wire.specs.declared.calls.CallFault.{CallFault}
use Rattle.portal_wire.specs.declared.calls.CallFault.TheVariants.{NoRoute, BadMethod, BadBody, BadRow, RollFull}
use Rattle.portal_wire.specs.declared.calls.CallFault.TheVariants.{Memory}
use Rattle.portal_wire.specs.Wish.{allow_of, no_route, bad_method, bad_body, bad_row, roll_full_reply, no_memory}
use Rattle.portal_wire.specs.Wish.{turned_away}
use Rattle.portal_wire.specs.Conversation.{Last, Closed, Limit}
use Rattle.portal_rolls.specs.declared.fault.RollFault.{RollFault}
use Rattle.portal_rolls.specs.declared.fault.RollFault.TheVariants as fault
use Rattle.portal_wire.specs.declared.bodies.BodyFault.TheVariants as body

-- a result is what reading gives, or a lack of memory
abbrev pub GivesBody : {A B : Type 0} → (A → B) → Result A BodyFault → Option B → Type 0
GivesBody view (Ok a) o = o ≡ Some (view a)
GivesBody view (Err Bad) o = o ≡ None
GivesBody view (Err Memory) o = Unit {0}

abbrev pub refusal_for : CallFault → RefusalContent
refusal_for NoRoute = no_route
refusal_for (BadMethod at) = bad_method (allow_of at)
refusal_for BadBody = bad_body
refusal_for (BadRow row) = bad_row row
refusal_for RollFull = roll_full_reply
refusal_for Memory = no_memory

-- the call, or why there is none; want of memory may be answered in place of both
abbrev pub IsCallOf : Wish → Result Call CallFault → Type 0
IsCallOf wish (Ok call) = wish ≡ Calls (call_model call)
IsCallOf wish (Err Memory) = Unit {0}
IsCallOf wish (Err why) = wish ≡ turned_away (refusal_for why)

-- the ending after a reply that closes, which was asked for or not
abbrev pub last_for : Bool → Last
last_for close = if close then Closed else Limit

-- why the fault of a body makes no call
abbrev pub of_body : BodyFault → CallFault
of_body body.Bad = BadBody
of_body body.Memory = Memory

-- why the fault of a roll makes no call
abbrev pub of_roll : RollFault → CallFault
of_roll fault.NoHeader = BadBody
of_roll fault.BadHeader = BadBody
of_roll (fault.FieldCount row) = BadRow row
of_roll (fault.NotText row) = BadRow row
of_roll (fault.BadField row column) = BadRow row
of_roll fault.TooMany = RollFull
of_roll fault.Memory = Memory
