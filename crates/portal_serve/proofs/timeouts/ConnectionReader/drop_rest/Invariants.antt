use Rattle.portal_serve.proofs.Base.{◌≡◌}
use Rattle.portal_serve.proofs.Dropping.{Dropped}
use Rattle.portal_serve.proofs.timeouts.ConnectionReader.drop_rest.Given as goal

abbrev pub invariant-loop-room : goal.invariant-loop-room
invariant-loop-room g l = record {
  dropped : Dropped (g.R.TimedRead.remaining l.initial.self.stream.now) (g.R.TimedRead.remaining l.self.stream.now) l.room;
  named : l.self.stream.ghost_name ≡ l.initial.self.stream.ghost_name;
}

abbrev pub decreases-loop-room : goal.decreases-loop-room
decreases-loop-room g l = l.room
