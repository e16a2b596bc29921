use Rattle.portal_frame.proofs.Base.{rules, take, drop, inl, inr, refl, subst, take-append-drop, HasNoRequest}
use Rattle.portal_frame.proofs.Base.{RequestOverflows, item_of, headless}
use Rattle.portal_frame.proofs.Heads.{head_of, front_is, length_front, none_so_far, none_now, overflows_all}
use Rattle.portal_frame.proofs.laws.opens_some.Goals as goal

pub returns-in-Ok-Complete : goal.returns-in-Ok-Complete
returns-in-Ok-Complete c =
    let e = rw c.in-Ok-Complete.field-0-is at c.in-Ok-Complete.ensures.complete in
    let w = rw c.in-Ok-Complete.field-0-is at c.in-Ok-Complete.ensures.within in
    let n = c.min.result in
    let bytes = c.args.bytes.now in
    let spans = c.in-Ok-Complete.field-0-0 in
    let head = head_of bytes (take n bytes) (drop n bytes) _ spans e.0 (take-append-drop n bytes) (length_front n bytes c.min.ensures)
    (search rules) e.1 w in
    (item_of e.0 (drop spans.len bytes), inl (e.0, drop spans.len bytes, head.takes, refl))

pub returns-in-Ok-Partial : goal.returns-in-Ok-Partial
returns-in-Ok-Partial c =
    let e = rw c.in-Ok-Partial.field-0-is at c.in-Ok-Partial.ensures.partial in
    let bytes = c.args.bytes.now in
    (headless bytes, inr (none_so_far bytes (subst HasNoRequest (front_is _ _ c.min.ensures) e), refl))

pub returns-in-Err : goal.returns-in-Err
returns-in-Err c =
    let bytes = c.args.bytes.now in (
      headless bytes,
      inr (
        none_now bytes (overflows_all _
            (subst (RequestOverflows 32) (front_is _ _ c.min.ensures) c.in-Err.ensures.no_room)),
        refl,
      ),
    )
