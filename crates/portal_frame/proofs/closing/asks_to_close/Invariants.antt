use Rattle.portal_frame.proofs.Base.{◌≡◌, drop, map, codes, header_bytes, values_of, asks_close}
use Rattle.portal_frame.proofs.closing.asks_to_close.Given as goal

abbrev pub invariant-loop-header : goal.invariant-loop-header
invariant-loop-header l = asks_close (values_of (codes "connection") (map (header_bytes l.bytes) (drop l.header-index l.headers)))
    ≡ asks_close (values_of (codes "connection") (map (header_bytes l.bytes) l.headers))
