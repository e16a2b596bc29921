use Rattle.portal_desk.proofs.Base.{rules, arith, ◌≡◌, ℕ, ◌+◌, ◌-◌, ◌<◌, ◌≤◌, Bool, true, false, subst, sym}
use Rattle.portal_desk.proofs.Base.{if◌then◌else◌, NoneWhole, request_limit}
use Rattle.std.proofs.Common.{inr, refl}
use Rattle.portal_desk.proofs.Framing.{follows, within, none_whole, none_err}
use Rattle.portal_desk.proofs.Taking.{reads_taken, failed_on}
use Rattle.portal_desk.proofs.reading.next_frame.Goals as goal

pub returns-in_default-found-clause-follows : goal.returns-in_default-found-clause-follows
returns-in_default-found-clause-follows g c =
    follows _ _ _ _ c.loop-found.ended c.in-Ok.found c.loop-found.invariant.reads
    (rw c.as_slice.ensures.value at c.in-Ok.ensures.framed) c.in_default-found.not-Need
    (within _ _ (rw c.as_slice.ensures.value at c.in-Ok.ensures.limits))

smaller : (old new : ℕ) (before after : Bool) → old < request_limit → before ≡ false
    → old + (if after then 0 else 1) ≤ new
    → request_limit - new + (if after then 0 else 1) < request_limit - old + (if before then 0 else 1)
smaller old new true after short on more = absurd (cc)
smaller old new false true short on more = omega (arith, short, more)
smaller old new false false short on more = omega (arith, short, more)

pub loop-found-smaller : goal.loop-found-smaller
loop-found-smaller g c =
    let framed = rw (c.as_slice.ensures.value, c.in-Need.is) at c.in-Ok.ensures.framed in
    let short = rw (c.as_slice.ensures.value, c.in-Need.is) at c.in-Ok.ensures.limits in
    smaller _ _ _ c.in_ok-ended.ended short (search (rules, framed.0)) c.in_ok-ended.ensures.ok.more

pub returns-in_err-ended-clause-none : goal.returns-in_err-ended-clause-none
returns-in_err-ended-clause-none g c =
    let framed = rw (c.as_slice.ensures.value, c.in-Need.is) at c.in-Ok.ensures.framed in
    none_err _ _ _ (subst NoneWhole (sym c.in_err-ended.ensures.none_lost) (none_whole _ c.loop-found.ended framed))

pub returns-in_default-clause-err : goal.returns-in_default-clause-err
returns-in_default-clause-err g c =
    let x = c.loop-found.invariant in
    record {
      causes = inr refl;
      left = λ is. absurd (cc);
      taken = reads_taken request_limit _ _ _ _ c.loop-found.ended x.reads x.held;
    }

pub returns-in_err-ended-clause-err : goal.returns-in_err-ended-clause-err
returns-in_err-ended-clause-err g c =
    let x = c.loop-found.invariant in
    let failed = c.in_err-ended.ensures.err in
    failed_on c.from_residual.result _ _ _ _ _ _ _ c.loop-found.ended c.from_residual.ensures.1 x.reads x.held failed
