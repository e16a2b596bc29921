-- What a desk did for one request.
use Rattle.std.specs.Prelude.{◌≡◌, ◌≢◌, ℕ, Bool, true, ◌||◌, List, [], take, Option, ◌⊎◌, false, Result, Ok, Err}
use Rattle.std.specs.Io.KnownBytes.{Appends}
use Rattle.portal_rules.specs.Keeping.{KeeperState}
use Rattle.portal_rules.specs.Answer.{Answer}
use Rattle.portal_rules.specs.Run.{Request, unavailable}
use Rattle.portal_desk.specs.declared.served.Cause.{Cause}
use Rattle.portal_desk.specs.declared.served.Cause.TheVariants as cause
use Rattle.portal_wire.specs.Conversation.{reply_text}
use Rattle.portal_desk.specs.Kept.{Acted, FailsAfter}
use Rattle.portal_rules.specs.declared.decision.Reply.{Reply}
use Rattle.portal_rules.specs.declared.keeper.KeepFault.{KeepFault}
use Rattle.portal_rules.specs.declared.keeper.KeepFault.TheVariants.{Memory, Store}
use Rattle.portal_frame.specs.declared.types.Refusal.{Refusal}
use Rattle.portal_frame.specs.Stream.{refusal_content}
use Rattle.portal_wire.specs.Wish.{answer_to}

-- a first part of a text that could not be written whole
abbrev pub Partly : Cause → Option (List ℕ) → Option (List ℕ) → List ℕ → Type 0
Partly cause.Write before after text = (k : ℕ) × Appends before after (take k text)
Partly cause.Memory before after text = Appends before after []
Partly _ before after text = ⊥

-- a text is written whole, or a first part of it
abbrev pub Writes : Result (Unit {0}) Cause → Option (List ℕ) → Option (List ℕ) → List ℕ → Type 0
Writes (Ok u) before after text = Appends before after text
Writes (Err why) before after text = Partly why before after text

-- the count of a device's failed calls: it has risen where the cause is the device's own, else it is as before
abbrev pub CountsFor : {A : Type 0} → Cause → Result A Cause → ℕ → ℕ → Type 0
CountsFor own (Ok x) old new = new ≡ old
CountsFor own (Err why) old new = (why ≡ own → FailsAfter old new) × (why ≢ own → new ≡ old)

-- some reply, with a fact
abbrev pub Replied : KeeperState → KeeperState → Request → (Answer → Type 0) → Type 0
Replied old new r P = (reply : Answer) × Acted old new r reply × P reply

-- what one answer that failed wrote
abbrev pub Broke : Cause → Bool → Answer → Bool → Bool → Option (List ℕ) → Option (List ℕ) → Type 0
Broke cause.Read failed reply head closes before after = ⊥
Broke cause.Write failed reply head closes before after =
    (k : ℕ) × Appends before after (take k (reply_text reply head (closes || failed)))
Broke cause.Memory failed reply head closes before after = Appends before after []
Broke cause.Store failed reply head closes before after =
    (failed ≡ true) × (reply ≡ unavailable) × Appends before after (reply_text unavailable head true)

-- whether the store failed
abbrev pub has_store_failed : Result Reply KeepFault → Bool
has_store_failed (Ok reply) = false
has_store_failed (Err Memory) = false
has_store_failed (Err Store) = true

-- the reply to a refusal, or 503
abbrev pub TurnsAway : Refusal → Answer → Type 0
TurnsAway refusal reply = (reply ≡ answer_to (refusal_content refusal)) ⊎ (reply ≡ unavailable)
