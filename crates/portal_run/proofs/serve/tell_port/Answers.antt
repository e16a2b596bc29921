use Rattle.portal_run.proofs.Base.{◌≡◌, Text, subst}
use Rattle.std.proofs.Common.{rules}
use Rattle.portal_run.specs.Lines.{listening_line}
use Rattle.portal_run.specs.inner.Input.{Writes}
use Rattle.portal_run.proofs.serve.tell_port.Goals as goal

pub returns-in-Ok : goal.returns-in-Ok
returns-in-Ok g c =
    let same : c.as_bytes.result.now ≡ listening_line c.args.port = search rules in
    subst (λ (l : Text). Writes c.write_line.result (g.W.Write.contents c.args.writer.now) (g.W.Write.contents c.write_line.new.writer) l)
    same c.write_line.ensures
