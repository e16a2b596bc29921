-- Which requests have a reply of their own.
use Rattle.std.specs.Prelude.{◌≢◌}
use Rattle.portal_rules.specs.Run.{Wish, Calls, NoCall, HasForm, unavailable}

-- the request has a reply of its own: its rows have the forms of their roll, or its refusal is not 503
abbrev pub HasReply : Wish → Type 0
HasReply (Calls ask) = HasForm ask
HasReply (NoCall refusal) = refusal ≢ unavailable
