use Rattle.portal_serve.proofs.Base.{◌≡◌, length}
use Rattle.std.specs.Io.KnownBytes.{Keeps}
use Rattle.portal_serve.proofs.timeouts.ConnectionReader.read_again.Given as goal

-- no byte was taken
abbrev pub invariant-loop : goal.invariant-loop
invariant-loop g l = record {
  long : length l.buf ≡ length l.initial.buf;
  kept : Keeps (g.R.TimedRead.remaining l.initial.self.stream.now) (g.R.TimedRead.remaining l.self.stream.now);
  named : l.self.stream.ghost_name ≡ l.initial.self.stream.ghost_name;
  counted : l.self.failures ≡ l.initial.self.failures;
}
