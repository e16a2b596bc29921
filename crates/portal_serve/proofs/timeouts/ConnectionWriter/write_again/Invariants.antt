use Rattle.portal_serve.proofs.Base.{◌≡◌}
use Rattle.std.specs.Io.KnownBytes.{Keeps}
use Rattle.portal_serve.proofs.timeouts.ConnectionWriter.write_again.Given as goal

-- no byte was written
abbrev pub invariant-loop : goal.invariant-loop
invariant-loop g l = record {
  kept : Keeps (g.W.TimedWrite.contents l.initial.self.stream.now) (g.W.TimedWrite.contents l.self.stream.now);
  named : l.self.stream.ghost_name ≡ l.initial.self.stream.ghost_name;
  counted : l.self.failures ≡ l.initial.self.failures;
}
