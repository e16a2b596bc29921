use Rattle.portal_frame.proofs.Base.{◌≡◌, ◌-◌, ◌≤◌, ◌++◌, length, take, drop, up_to}
use Rattle.portal_frame.proofs.values.up_to.Given as goal

abbrev pub decreases-loop-at : goal.decreases-loop-at
decreases-loop-at l = length l.bytes - l.at

abbrev pub invariant-loop-at : goal.invariant-loop-at
invariant-loop-at l = record {
  within : l.at ≤ length l.bytes;
  so_far : take l.at l.bytes ++ up_to l.end (drop l.at l.bytes) ≡ up_to l.end l.bytes;
}
