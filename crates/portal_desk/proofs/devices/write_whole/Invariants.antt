use Rattle.portal_desk.proofs.Base.{◌≡◌, ◌-◌, ◌≤◌, length, take, Appends}
use Rattle.portal_desk.proofs.devices.write_whole.Given as goal

abbrev pub decreases-loop-at : goal.decreases-loop-at
decreases-loop-at g l = length l.bytes - l.at

abbrev pub invariant-loop-at : goal.invariant-loop-at
invariant-loop-at g l = record {
  within : l.at ≤ length l.bytes;
  written : Appends (g.W.Sink.contents l.initial.sink) (g.W.Sink.contents l.sink) (take l.at l.bytes);
  counted : g.W.Sink.failed l.sink ≡ g.W.Sink.failed l.initial.sink;
  named : g.W.Sink.name l.sink ≡ g.W.Sink.name l.initial.sink;
}
