use Rattle.portal_frame.proofs.Base.{rules, inl, inr, take, drop, subst, refl, take-append-drop, HasNoRequest}
use Rattle.portal_frame.proofs.Base.{RequestOverflows, MayBecomeRequest, NeverHasRequest, RequestExceeds}
use Rattle.portal_frame.proofs.Heads.{overflows_all, none_now, none_ever, head_of, none_so_far, none_later, opens_never}
use Rattle.portal_frame.proofs.Heads.{front_is, front_all, length_front}
use Rattle.portal_frame.proofs.frame.Goals as goal

pub frame_head-requires : goal.frame_head-requires
frame_head-requires c =
    let e = rw c.in-Ok-Complete.field-0-is at c.in-Ok-Complete.ensures.complete in
    let w = rw c.in-Ok-Complete.field-0-is at c.in-Ok-Complete.ensures.within in
    let n = c.min.result in
    let bytes = c.args.bytes.now in (
      e.0,
      head_of bytes (take n bytes) (drop n bytes) _ c.in-Ok-Complete.spans e.0 (take-append-drop n bytes)
          (length_front n bytes c.min.ensures) (search rules) e.1 w,
    )

pub frame_open-requires-clause-none : goal.frame_open-requires-clause-none
frame_open-requires-clause-none c =
    let e = rw c.in-Ok-Partial.field-0-is at c.in-Ok-Partial.ensures.partial in
    none_so_far c.args.bytes.now (subst HasNoRequest (front_is _ _ c.min.ensures) e)

pub frame_open-requires-clause-full : goal.frame_open-requires-clause-full
frame_open-requires-clause-full c =
    let e = rw c.in-Ok-Partial.field-0-is at c.in-Ok-Partial.ensures.partial in
    λ full more. none_later c.args.bytes.now more (subst HasNoRequest (front_is _ _ c.min.ensures) e) full

pub frame_open-requires-clause-may : goal.frame_open-requires-clause-may
frame_open-requires-clause-may c =
    let e = rw c.in-Ok-Partial.field-0-is at c.in-Ok-Partial.ensures.unfinished in
    λ short. inl (subst MayBecomeRequest (front_all _ c.args.bytes.now c.min.ensures short) e)

pub frame_open-requires-in-TooManyHeaders-clause-none : goal.frame_open-requires-in-TooManyHeaders-clause-none
frame_open-requires-in-TooManyHeaders-clause-none c =
    none_now c.args.bytes.now (overflows_all _ (subst (RequestOverflows 32) (front_is _ _ c.min.ensures) c.in-Err.ensures.no_room))

pub frame_open-requires-in-TooManyHeaders-clause-full : goal.frame_open-requires-in-TooManyHeaders-clause-full
frame_open-requires-in-TooManyHeaders-clause-full c =
    λ _ more. none_ever c.args.bytes.now more
    (overflows_all _ (subst (RequestOverflows 32) (front_is _ _ c.min.ensures) c.in-Err.ensures.no_room))

pub frame_open-requires-in-TooManyHeaders-clause-may : goal.frame_open-requires-in-TooManyHeaders-clause-may
frame_open-requires-in-TooManyHeaders-clause-may c =
    let e = rw c.in-TooManyHeaders.is at c.in-Err.ensures.too_many in
    λ short. inr (subst (RequestExceeds 32) (front_all _ c.args.bytes.now c.min.ensures short) (e refl))

pub returns-in_default : goal.returns-in_default
returns-in_default c = record {
  framed = λ more _. rw c.refusal.ensures (opens_never c.args.bytes.now more
      (overflows_all _ (subst (RequestOverflows 32) (front_is _ _ c.min.ensures) c.in-Err.ensures.no_room)));
  due = inr (inr (inr (inr (subst NeverHasRequest (front_is _ _ c.min.ensures)
      (c.in-Err.ensures.invalid c.in_default.not-TooManyHeaders)))));
  limits = tt;
}
