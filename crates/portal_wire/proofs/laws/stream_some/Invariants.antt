use Rattle.portal_wire.proofs.Base.{ℕ, ◌<◌, drop, Item, Opens}
use Rattle.portal_wire.proofs.laws.stream_some.Given as goal

abbrev pub invariant-loop-start : goal.invariant-loop-start
invariant-loop-start l = (k : ℕ) → k < l.start → (item : Item) × Opens (drop k l.bytes) item
