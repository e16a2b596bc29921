-- What a buffer and a source hold of a stream.
use Rattle.std.specs.Prelude.{◌≡◌, ◌≢◌, ◌⊎◌, ℕ, ◌+◌, ◌-◌, ◌≤◌, Bool, IsTrue, if◌then◌else◌}
use Rattle.std.specs.Prelude.{List, [], ◌++◌, length, drop, Option, Some, IfSome}
use Rattle.portal_desk.specs.declared.served.Cause.{Cause}
use Rattle.portal_desk.specs.declared.served.Cause.TheVariants as cause
use Rattle.portal_desk.specs.Kept.{TakesAtMost}
use Rattle.portal_frame.specs.declared.types.Frame.{Frame}
use Rattle.portal_frame.specs.declared.types.Frame.TheVariants as frame
use Rattle.portal_frame.specs.Stream.{RequestContent, Opens, Whole, Faulty, Over, request_content, refusal_content}
use Rattle.portal_frame.specs.Stream.{request_limit}

-- the buffer and what the source has left are still the stream; at the end nothing is left
abbrev pub ReadsMore : Option (List ℕ) → Option (List ℕ) → List ℕ → List ℕ → Bool → Type 0
ReadsMore old new before after ended =
    IfSome old (λ more. (rest : List ℕ) × (new ≡ Some rest) × (after ++ rest ≡ before ++ more) × (IsTrue ended → rest ≡ []))

-- the same where reading failed
abbrev pub KeepsStream : Option (List ℕ) → Option (List ℕ) → List ℕ → List ℕ → Type 0
KeepsStream old new before after =
    IfSome old (λ more. (rest : List ℕ) × (new ≡ Some rest) × (after ++ rest ≡ before ++ more))

-- a read that added some bytes to the buffer, or found the source at its end
pub record IsPieceRead (old new : Option (List ℕ)) (before after : List ℕ) (ended : Bool) : Type 0 where
  -- the buffer and what the source has left are still the stream
  pub bytes : ReadsMore old new before after ended
  -- the buffer has grown, unless the source has ended
  pub more : length before + (if ended then 0 else 1) ≤ length after

-- a read that failed for this cause
pub record IsFailedRead (old new : Option (List ℕ)) (before after : List ℕ) (why : Cause) : Type 0 where
  -- the source failed, or memory ran out
  pub causes : (why ≡ cause.Read) ⊎ (why ≡ cause.Memory)
  -- if the source failed, the buffer and what the source has left are still the stream
  pub left : why ≡ cause.Read → KeepsStream old new before after
  -- the source gave no more than the longest request has room for
  pub taken : TakesAtMost (request_limit - length before) old new

-- what the stream opens with, where the first bytes of it are in the buffer
abbrev pub Heads : List ℕ → List ℕ → List ℕ → Frame → Type 0
Heads stream buffer rest frame.Need = ⊥
Heads stream buffer rest frame.End = Opens stream Over
Heads stream buffer rest (frame.Request request used) =
    Opens stream (Whole (request_content request) (drop used buffer ++ rest))
Heads stream buffer rest (frame.Bad refusal head_only) = Opens stream (Faulty (refusal_content refusal) head_only)

-- a request's bytes are in the buffer, and no more than the longest request
abbrev pub IsWithin : List ℕ → Frame → Type 0
IsWithin buffer (frame.Request request used) = (used ≤ length buffer) × (used ≤ request_limit)
IsWithin buffer found = Unit {0}

-- what was found at the front of the stream
pub record Follows (old new : Option (List ℕ)) (before after : List ℕ) (found : Frame) : Type 0 where
  -- the stream opens with it
  pub goes : IfSome old (λ more. (rest : List ℕ) × (new ≡ Some rest) × (after ++ rest ≡ before ++ more) × Heads (before ++ more) after rest found)
  -- no more bytes are needed
  pub whole : found ≢ frame.Need
  pub within : IsWithin after found

-- no request stands whole there
abbrev pub NoneWhole : List ℕ → Type 0
NoneWhole bytes = (a : RequestContent) → (after : List ℕ) → ¬ (Opens bytes (Whole a after))
