use Rattle.portal_frame.proofs.Base.{◌≡◌, ◌≤◌, length, drop, sym, ◌∙◌, arith, Ok, body_length, fields_of}
use Rattle.portal_frame.proofs.Heads.{after_whole}
use Rattle.portal_frame.proofs.Limits.{whole-within}
use Rattle.portal_frame.proofs.frame_head.Goals as goal

pub returns-clause-framed : goal.returns-clause-framed
returns-clause-framed c more =
    let h = c.requires.0 in
    let x = c.requires.1 in
    let sized : body_length h.minor (fields_of h) ≡ Ok c.in-Ok.n = rw (← x.version, ← x.lines) (sym c.check_lines.ensures ∙ c.in-Ok.is) in
    let enough : c.in-Ok.n ≤ length (drop c.args.spans.len c.args.bytes.now) =
    rw (sym c.split_at.ensures.back) (omega (arith, c.if-rest-n.false)) in
    rw (
      c.in_ok-from_slice.ensures.items,
      c.of-method.ensures,
      x.method,
      c.in_ok-from_slice-2.ensures.items,
      c.up_to.ensures,
      c.of.ensures,
      x.path,
      c.in_ok-code_of.ensures,
      c.ends_after.ensures,
      x.version,
      x.lines,
      c.in_ok-from_slice-3.ensures.items,
      c.split_at-2.ensures.front,
      c.split_at.ensures.back,
    ) (after_whole c.args.bytes.now more h c.args.spans.len c.in-Ok.n x.takes sized enough)

pub returns-clause-limits : goal.returns-clause-limits
returns-clause-limits c =
    let h = c.requires.0 in
    let x = c.requires.1 in
    let sized : body_length h.minor (fields_of h) ≡ Ok c.in-Ok.n = rw (← x.version, ← x.lines) (sym c.check_lines.ensures ∙ c.in-Ok.is) in
    let within = whole-within h c.args.spans.len c.in-Ok.n x.len x.takes.short sized in
    (within.0, omega (arith, x.len_fits, c.if-rest-n.false, c.split_at.ensures.back_len), within.1)
