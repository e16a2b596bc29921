-- What one call of `serve` does: the requests of its stream, what is written, and how it ends.
use Rattle.std.specs.Prelude.{ℕ, Bool, ◌≡◌, ◌⊎◌, ◌||◌, true, List, [], ◌∷◌, ◌++◌, length, take, Option, Some, IfSome}
use Rattle.std.specs.Prelude.{Result, Ok, Err}
use Rattle.std.specs.Io.KnownBytes.{Appends}
use Rattle.portal_rules.specs.Run.{unavailable}
use Rattle.portal_frame.specs.Stream.{RequestContent, Opens, Whole}
use Rattle.portal_wire.specs.Conversation.{connection_limit, reply_text, Rest, More, Leads, Last, last, Ends, Requests}
use Rattle.portal_wire.specs.Conversation.{Exchange, requests_of, text}
use Rattle.portal_desk.specs.declared.served.Cause.{Cause}
use Rattle.portal_desk.specs.declared.served.Cause.TheVariants as cause
use Rattle.portal_desk.specs.declared.served.Served.{Served}
use Rattle.portal_desk.specs.declared.served.ServeFault.{ServeFault}
use Rattle.portal_rules.specs.Keeping.{KeeperState}
use Rattle.portal_desk.specs.Kept.{DeskState, Moves, Worked, TakesAtMost, AtFirst, taken_limit}

-- how serving a stream ends: as the stream does, or stopped (cause, has the store failed, unread bytes)
pub data Finish : Type 0 where
  Ended : Last → Finish
  Stopped : Cause → Bool → Option (List ℕ) → Finish

-- how a call with this result ends, by whether the desk has failed and what its source has left
abbrev pub finish_of : Result Served ServeFault → Bool → Option (List ℕ) → Finish
finish_of (Ok served) failed left = Ended (last served.ending)
finish_of (Err fault) failed left = Stopped fault.cause failed left

-- how many requests a result counts
abbrev pub count_of : Result Served ServeFault → ℕ
count_of (Ok served) = served.requests
count_of (Err fault) = fault.requests

-- all replies but the last, and a first part of the last, which closes after a fault of the store
abbrev pub CutsLast : Bool → List Exchange → List ℕ → Type 0
CutsLast failed es written =
    (front : List Exchange) × (e : Exchange) × (k : ℕ) × (es ≡ front ++ e ∷ [])
    × (written ≡ text front ++ take k (reply_text e.reply e.request.head (e.request.closes || failed)))

-- all replies but the last
abbrev pub LacksLast : List Exchange → List ℕ → Type 0
LacksLast es written = (front : List Exchange) × (e : Exchange) × (es ≡ front ++ e ∷ []) × (written ≡ text front)

-- all replies, and a first part of the refusal that follows
abbrev pub CutsClosing : List Exchange → Rest → List ℕ → Type 0
CutsClosing es rest written =
    (end : Last) × (closing : List ℕ) × (k : ℕ) × Ends rest end closing × (written ≡ text es ++ take k closing)

-- the bytes that were read hold no further whole request, and the others are still unread
abbrev pub AllSeen : Rest → Option (List ℕ) → Type 0
AllSeen rest left =
    (held unread : List ℕ) × (rest ≡ More (held ++ unread)) × (left ≡ Some unread)
    × ((a : RequestContent) → (after : List ℕ) → ¬ (Opens held (Whole a after)))

-- what is written, by the cause of the fault
abbrev pub Wrote : Cause → Bool → List Exchange → Rest → Option (List ℕ) → List ℕ → Type 0
Wrote cause.Read failed es rest left written = AllSeen rest left × (written ≡ text es)
Wrote cause.Write failed es rest left written = CutsLast failed es written ⊎ CutsClosing es rest written
Wrote cause.Memory failed es rest left written = LacksLast es written ⊎ (written ≡ text es)
Wrote cause.Store failed es rest left written =
    (failed ≡ true) × (front : List Exchange) × (e : Exchange) × (es ≡ front ++ e ∷ []) × (e.reply ≡ unavailable)
    × (written ≡ text front ++ reply_text unavailable e.request.head true)

-- the requests are the stream's; the text is all replies, or what the cause of a fault leaves
abbrev pub TellsExchanges : Finish → List ℕ → List Exchange → List ℕ → Type 0
TellsExchanges (Ended ending) bytes es written =
    (closing : List ℕ) × Requests bytes (requests_of es) ending closing × (written ≡ text es ++ closing)
TellsExchanges (Stopped why failed left) bytes es written =
    (rest : Rest) × Leads connection_limit bytes (requests_of es) rest × Wrote why failed es rest left written

-- a stream: what is read and written, and how serving it ends
pub record Stream : Type 0 where
  pub bytes : List ℕ
  pub written : List ℕ
  pub finish : Finish

-- requests with their replies, and the stream that they came in, if its bytes are known
pub record Visit : Type 0 where
  pub exchanges : List Exchange
  pub stream : Option Stream

-- if the bytes are known, what is written tells the requests
abbrev pub Tells : Visit → Type 0
Tells v = IfSome v.stream (λ s. TellsExchanges s.finish s.bytes v.exchanges s.written)

-- a visit, with what it finds and what it leaves: a keeper, or what files hold
pub record Session (X : Type 0) : Type 0 where
  pub found : X
  pub left : X
  pub visit : Visit

-- the exchanges have moved the keeper, and are told by what is written
pub record IsSession {K : Type 0} (state : K → KeeperState) (s : Session K) : Type 0 where
  pub moves : Moves (state s.found) (state s.left) s.visit.exchanges
  pub tells : Tells s.visit

-- some exchanges serve these bytes, or a first part of them: they are counted, and what is written is
-- added to what the sink holds, if that is known
pub record SomeSession {K : Type 0} (state : K → KeeperState) (old new : K) (before after : Option (List ℕ))
    (count : ℕ) (finish : Finish) (bytes : List ℕ) : Type 0 where
  pub exchanges : List Exchange
  pub counted : count ≡ length exchanges
  pub written : List ℕ
  pub adds : Appends before after written
  pub session : IsSession state (record {
    found = old;
    left = new;
    visit = record { exchanges = exchanges; stream = Some (record { bytes = bytes; written = written; finish = finish }) };
  })

-- how many requests a desk that had failed takes: the first one ends the call
abbrev pub TakesFirst : Result Served ServeFault → Type 0
TakesFirst (Ok served) = served.requests ≡ 0
TakesFirst (Err fault) = AtFirst fault.cause fault.requests

-- whether a desk has failed, around a fault: one of the source leaves it so, one of the store fails it
abbrev pub FailsBy : Cause → Bool → Bool → Type 0
FailsBy cause.Read old new = new ≡ old
FailsBy cause.Store old new = new ≡ true
FailsBy _ old new = Unit {0}

-- the same around a call; one that serves its stream to the end leaves it so
abbrev pub Settles : Result Served ServeFault → Bool → Bool → Type 0
Settles (Ok served) old new = new ≡ old
Settles (Err fault) old new = FailsBy fault.cause old new

-- what a call of `serve` does, with this result: `source` and `left` are what the source has to give
-- before and after it, `before` and `after` what the sink holds, where that is known
pub record ServesOne {K : Type 0} (state : K → KeeperState) (r : Result Served ServeFault) (old new : DeskState K)
    (source left before after : Option (List ℕ)) : Type 0 where
  -- the desk moves, whatever is known of the bytes
  pub worked : Worked state old new
  -- if the bytes are known, the exchanges are those of the stream
  pub served : IfSome source
      (SomeSession state old.keeper new.keeper before after (count_of r) (finish_of r new.failed left))
  -- the source gives no more than so many of the longest requests
  pub taken : TakesAtMost taken_limit source left
  -- a desk that had failed is as before, and ends the stream at its first request
  pub stays : old.failed ≡ true → (new ≡ old) × TakesFirst r
  -- it has failed after a fault of the store; `Ok` or a fault of the source leaves that as it was;
  -- after one of the sink or of memory, nothing is said of it
  pub settles : Settles r old.failed new.failed
