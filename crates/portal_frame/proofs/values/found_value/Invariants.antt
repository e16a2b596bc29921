use Rattle.portal_frame.proofs.Base.{take, map, header_bytes, values_of, IsFound}
use Rattle.portal_frame.proofs.values.found_value.Given as goal

abbrev pub invariant-loop-header : goal.invariant-loop-header
invariant-loop-header l = IsFound l.found (values_of l.name (map (header_bytes l.bytes) (take l.header-index l.headers)))
