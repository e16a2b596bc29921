use Rattle.portal_frame.proofs.Base.{◌≡◌, ◌+◌, ◌≤◌, drop, Leading, lines_from}
use Rattle.portal_frame.proofs.counting.lines_in.Given as goal

abbrev pub invariant-loop-byte : goal.invariant-loop-byte
invariant-loop-byte l = record {
  few : l.lines ≤ l.byte-index;
  count : l.lines + lines_from l.at (drop l.byte-index l.bytes) ≡ lines_from Leading l.bytes;
}
