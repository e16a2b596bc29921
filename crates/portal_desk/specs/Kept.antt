-- What a desk, a metered device and a keeper hold, how they count failed calls, and what requests
-- with their replies do to a keeper.
use Rattle.std.specs.Prelude.{ℕ, Bool, ◌≡◌, ◌≢◌, ◌⊎◌, ◌+◌, ◌-◌, ◌^◌, ◌<◌, ◌≤◌, min, List, length, Option, Some, IfSome}
use Rattle.std.specs.Prelude.{Result, MatchResult, true, false, ◌∷◌, ◌++◌}
use Rattle.serde_json.specs.Written.{has_float}
use Rattle.portal_rules.specs.World.{World}
use Rattle.portal_rules.specs.Answer.{Answer, Said, Json, Unavailable}
use Rattle.portal_rules.specs.Keeping.{KeeperState, IsSettled, StaysClean, LastsOrBreaks, LeavesBy}
use Rattle.portal_rules.specs.Run.{AllAnswered, Request, Serves, unavailable}
use Rattle.portal_wire.specs.Conversation.{Exchange, replies_of, Reaches}
use Rattle.portal_desk.specs.declared.served.Cause.{Cause}
use Rattle.portal_desk.specs.declared.served.Cause.TheVariants as cause

-- a desk: what keeps the world, and whether the store has failed
pub record DeskState (K : Type 0) : Type 0 where
  pub keeper : K
  pub failed : Bool

-- a reader or a writer, and how many of its calls have failed
pub record Metered (T : Type 0) : Type 0 where
  pub inner : T
  pub failures : ℕ

-- a call that failed counts once, up to the greatest number, and no other does
abbrev pub Counts : {A E : Type 0} → Result A E → ℕ → ℕ → Type 0
Counts r old new = MatchResult r (λ _. new ≡ old) (λ _. new ≡ min (old + 1) (2 ^ 64 - 1))

-- the count has risen, or is at its maximum
abbrev pub FailsAfter : ℕ → ℕ → Type 0
FailsAfter old new = (old < new) ⊎ (new ≡ 2 ^ 64 - 1)

-- the most bytes that one call of `serve` takes: 256 requests of 1,064,960 bytes
abbrev pub taken_limit : ℕ
taken_limit = 272629760

-- a reader whose bytes are known has given at most n of them
abbrev pub TakesAtMost : ℕ → Option (List ℕ) → Option (List ℕ) → Type 0
TakesAtMost n old new = IfSome old (λ bytes. (left : List ℕ) × (new ≡ Some left) × (length bytes ≤ length left + n))

-- a desk fails exactly if its keeper's fault count rises, by one; then the count stays
abbrev pub FailsByCount : Bool → Bool → ℕ → ℕ → Type 0
FailsByCount true after old new = (after ≡ true) × (new ≡ old)
FailsByCount false false old new = new ≡ old
FailsByCount false true old new = new ≡ old + 1

-- the exchanges reach this world, or they do if the request of one reply 503 was carried out
abbrev pub MayReach : World → List Exchange → World → Type 0
MayReach old es w =
    Reaches old es w
    ⊎ ((front back : List Exchange) × (e : Exchange) × (other : Answer) × (es ≡ front ++ e ∷ back)
    × (e.reply ≡ unavailable)
    × Reaches old (front ++ record e { reply = other } ∷ back) w)

-- a stop may leave the world after this request, of a keeper that was not broken; if it is now, the
-- reply is 503
pub record MayLeave (old new : KeeperState) (r : Request) (reply : Answer) (w : World) : Type 0 where
  pub alive : old.broken → ⊥
  pub untold : new.broken → reply ≡ unavailable
  pub turned : old.clean → (other : Answer) × Serves old.world r other w

-- what one request did to a keeper, with this reply
pub record Acted (old new : KeeperState) (r : Request) (reply : Answer) : Type 0 where
  -- it makes no keeper clean
  pub clean : new.clean → old.clean
  -- it is a step of a clean keeper's world
  pub serves : new.clean → Serves old.world r reply new.world
  -- a clean keeper is clean still if the reply is not 503, on a clean disk
  pub lasts : reply ≢ unavailable → StaysClean old new
  -- in any case, on a clean disk: a clean keeper stays clean or breaks, a broken one stays broken
  pub breaks : LastsOrBreaks old new
  -- on a clean disk, if the keeper is broken now, the reply leaves every world as it is: it is 503
  -- or the refusal of a route, method or body
  pub broken : new.disk → new.broken → (w : World) → Serves w r reply w
  -- a stop leaves only the world of a keeper that is clean now, if it did before
  pub settled : IsSettled old → new.clean → IsSettled new
  -- on a clean disk, a stop leaves what one before did, or the world after this request
  pub leaves : LeavesBy old new (MayLeave old new r reply)

-- what these exchanges did to a keeper, whatever is known of their bytes
pub record Moves (old new : KeeperState) (es : List Exchange) : Type 0 where
  -- they make no keeper clean
  pub clean : new.clean → old.clean
  -- a clean keeper has their world
  pub reaches : new.clean → Reaches old.world es new.world
  -- it is clean still if no reply is 503, on a clean disk
  pub lasts : AllAnswered (replies_of es) → StaysClean old new
  -- in any case, on a clean disk: a clean keeper stays clean or breaks, a broken one stays broken
  pub breaks : LastsOrBreaks old new
  -- a stop leaves only the world of a keeper that is clean now, if it did before
  pub settled : IsSettled old → new.clean → IsSettled new
  -- if it was broken, the exchanges leave every world as it is, and a stop leaves what one before did
  pub still : new.disk → old.broken → (w : World) → Reaches w es w × (new.leaves w → old.leaves w)
  -- a stop may leave the world of these exchanges, or of a run in which the request of one reply 503
  -- was carried out
  pub leaves : IsSettled old → old.clean → new.disk → (w : World) → new.leaves w → MayReach old.world es w

-- some exchanges did, whatever is known of their bytes
abbrev pub IsMoved : KeeperState → KeeperState → Type 0
IsMoved old new = (es : List Exchange) × Moves old new es

-- what a desk did: some exchanges moved its keeper, and it fails exactly if a fault of the store is
-- counted
pub record Worked {K : Type 0} (state : K → KeeperState) (old new : DeskState K) : Type 0 where
  pub moves : IsMoved (state old.keeper) (state new.keeper)
  pub counts : FailsByCount old.failed new.failed (state old.keeper).faults (state new.keeper).faults

-- the blamed device has failed in this call
abbrev pub Blames : Cause → ℕ → ℕ → ℕ → ℕ → Type 0
Blames cause.Read source_old source_new sink_old sink_new = FailsAfter source_old source_new
Blames cause.Write source_old source_new sink_old sink_new = FailsAfter sink_old sink_new
Blames _ source_old source_new sink_old sink_new = Unit {0}

-- the number of requests that an already failed desk takes: the first one ends the call
abbrev pub AtFirst : Cause → ℕ → Type 0
AtFirst cause.Read count = count ≡ 0
AtFirst cause.Store count = count ≡ 1
AtFirst _ count = count ≤ 1

-- the body of an answer other than 503; JSON has whole numbers only
abbrev pub IsAnsweredBody : Said → Type 0
IsAnsweredBody (Json body) = has_float body ≡ false
IsAnsweredBody Unavailable = ⊥
IsAnsweredBody _ = Unit {0}
