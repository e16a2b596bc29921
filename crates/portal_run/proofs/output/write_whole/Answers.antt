use Rattle.portal_run.proofs.Base.{◌≡◌, ◌≤◌, Appends, Text, arith, drop, length, subst, take, take_all}
use Rattle.std.proofs.Common.{◌-◌}
use Rattle.portal_run.proofs.Written.{more_written}
use Rattle.std.proofs.lemmas.List.{length-drop}
use Rattle.portal_run.proofs.output.write_whole.Goals as goal

pub loop-done-preserved : goal.loop-done-preserved
loop-done-preserved g c =
    let rest : Text = drop c.loop-done.done c.args.text.now in
    let size = length-drop c.loop-done.done c.args.text.now in
    let all : take (length c.args.text.now - c.loop-done.done) rest ≡ rest = take_all _ rest (omega (arith, size)) in
    let bound : c.in-Ok.n ≤ length rest = subst (λ (l : Text). c.in-Ok.n ≤ length l) all c.in-Ok.ensures.bound in (
      omega (arith, c.loop-done.invariant.0, bound, size),
      more_written _ _ _ c.args.text.now c.loop-done.done c.in-Ok.n c.loop-done.invariant.1
          (subst (λ (l : Text). Appends (g.W.Write.contents c.loop-done.writer) (g.W.Write.contents c.write_again.new.writer)
          (take c.in-Ok.n l)) all c.in-Ok.ensures.bytes),
    )
