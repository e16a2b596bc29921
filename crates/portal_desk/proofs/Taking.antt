-- How many bytes a reader gave.
use Rattle.portal_desk.proofs.Base.{◌≡◌, ℕ, Bool, ◌+◌, ◌-◌, ◌<◌, ◌≤◌, List, ◌++◌, length, drop, refl, sym, ap, ◌∙◌}
use Rattle.portal_desk.proofs.Base.{subst, arith, Option, Some, None, Result, Ok, Err, length-append, Frame, Follows}
use Rattle.portal_desk.proofs.Base.{◌*◌, length-drop, TakesAtMost, ReadsMore, request_limit, connection_limit}
use Rattle.portal_desk.proofs.Base.{taken_limit}
use Rattle.portal_desk.specs.declared.served.Cause.{Cause}
use Rattle.portal_desk.specs.inner.Reading.{IsFailedRead, KeepsStream}
use Rattle.std.specs.Prelude.{IfErr, IsErrAnd}

-- the lengths of what stays one stream
one_stream : (before after more rest : List ℕ) → after ++ rest ≡ before ++ more
    → length after + length rest ≡ length before + length more
one_stream before after more rest e = sym (length-append after rest) ∙ (ap length e ∙ length-append before more)

-- so many requests before, and what the buffer holds
pub record TakenBy (done held : ℕ) (old new : Option (List ℕ)) : Type 0 where
  pub few : TakesAtMost (done * request_limit + held) old new

pub none_taken : (old : Option (List ℕ)) (held : ℕ) → TakenBy 0 held old old
none_taken None held = record { few = tt }
none_taken (Some bytes) held = record { few = (bytes, refl, omega arith) }

pub follows_taken : {done : ℕ} {old mid new : Option (List ℕ)} {before after : List ℕ} {f : Frame}
    → TakenBy done (length before) old mid → Follows mid new before after f
    → TakenBy done (length after) old new
follows_taken {old = None} taken follows = record { few = tt }
follows_taken {done = done} {old = Some bytes} {new = new} {before = before} {after = after} {f = f} taken follows =
    let x = taken.few in
    let g = (subst (λ o. Follows o new before after f) x.1 follows).goes in
    record { few = (g.0, g.1, omega (arith, one_stream before after x.0 g.0 g.2, x.2)) }

-- what a buffer with room for so many bytes took
pub reads_taken : (room : ℕ) (old new : Option (List ℕ)) (before after : List ℕ) (ended : Bool)
    → ReadsMore old new before after ended → length after ≤ room
    → TakesAtMost (room - length before) old new
reads_taken room None new before after ended reads held = tt
reads_taken room (Some bytes) new before after ended (left, known, same, last) held =
    (left, known, omega (arith, one_stream before after bytes left same, held))

-- the same, and what one more read took
more_taken : (room : ℕ) (old mid new : Option (List ℕ)) (before during : List ℕ) (ended : Bool)
    → ReadsMore old mid before during ended → length during ≤ room
    → TakesAtMost (room - length during) mid new → TakesAtMost (room - length before) old new
more_taken room None mid new before during ended reads held taken = tt
more_taken room (Some bytes) mid new before during ended (left, known, same, last) held taken =
    let t = subst (λ o. TakesAtMost (room - length during) o new) known taken in
    (t.0, t.1, omega (arith, one_stream before during bytes left same, held, t.2))

-- what stays the stream before a read that fails, and after it
still_stream : (old mid new : Option (List ℕ)) (before during after : List ℕ) (ended : Bool)
    → ReadsMore old mid before during ended → KeepsStream mid new during after → KeepsStream old new before after
still_stream None mid new before during after ended reads keeps = tt
still_stream (Some bytes) mid new before during after ended (left, known, same, last) keeps =
    let k = subst (λ o. KeepsStream o new during after) known keeps in
    (k.0, k.1, k.2 ∙ same)

-- a read that fails after others
failed_after : (old mid new : Option (List ℕ)) (before during after : List ℕ) (ended : Bool) (why : Cause)
    → ReadsMore old mid before during ended → length during ≤ request_limit
    → IsFailedRead mid new during after why → IsFailedRead old new before after why
failed_after old mid new before during after ended why reads held failed = record {
  causes = failed.causes;
  left = λ is. still_stream old mid new before during after ended reads (failed.left is);
  taken = more_taken request_limit old mid new before during ended reads held failed.taken;
}

-- the same, where the fault is handed on
pub failed_on : {X : Type 0} (r : Result X Cause) (why : Cause)
    (old mid new : Option (List ℕ)) (before during after : List ℕ) (ended : Bool)
    → IsErrAnd r (λ e. e ≡ why) → ReadsMore old mid before during ended → length during ≤ request_limit
    → IsFailedRead mid new during after why → IfErr r (IsFailedRead old new before after)
failed_on (Ok x) why old mid new before during after ended is reads held failed = tt
failed_on (Err e) why old mid new before during after ended is reads held failed =
    let is_failed = failed_after old mid new before during after ended why reads held failed in
    subst (IsFailedRead old new before after) (sym is) is_failed

-- where serving ends after this frame
pub ended_taken : {done : ℕ} {old mid new : Option (List ℕ)} {before after : List ℕ} {f : Frame}
    → done < connection_limit → length after ≤ request_limit
    → TakenBy done (length before) old mid → Follows mid new before after f → TakesAtMost taken_limit old new
ended_taken {old = None} small low taken follows = tt
ended_taken {done = done} {old = Some bytes} {after = after} small low taken follows =
    let x = (follows_taken taken follows).few in
    (x.0, x.1, omega (arith, small, low, x.2))

-- where no frame was found
pub missed_taken : {done : ℕ} {old mid : Option (List ℕ)} (new : Option (List ℕ)) (before : List ℕ)
    → done < connection_limit → length before ≤ request_limit
    → TakenBy done (length before) old mid → TakesAtMost (request_limit - length before) mid new → TakesAtMost taken_limit old new
missed_taken {old = None} new before small held taken last = tt
missed_taken {done = done} {old = Some bytes} new before small held taken last =
    let x = taken.few in
    let y = subst (λ o. TakesAtMost (request_limit - length before) o new) x.1 last in
    (y.0, y.1, omega (arith, small, held, x.2, y.2))

pub cut_taken : {done : ℕ} {old new : Option (List ℕ)} (used : ℕ) (held kept : List ℕ) → used ≤ request_limit
    → kept ≡ drop used held
    → TakenBy done (length held) old new → TakenBy (done + 1) (length kept) old new
cut_taken {old = None} used held kept few cut taken = record { few = tt }
cut_taken {done = done} {old = Some bytes} used held kept few cut taken =
    let x = taken.few in
    record { few = (x.0, x.1, omega (arith, few, ap length cut ∙ length-drop used held, x.2)) }

pub cut_held : (used : ℕ) (held kept : List ℕ) → kept ≡ drop used held → length held ≤ request_limit
    → length kept ≤ request_limit
cut_held used held kept cut low = omega (arith, ap length cut ∙ length-drop used held, low)
