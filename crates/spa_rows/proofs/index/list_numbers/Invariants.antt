use Rattle.spa_rows.proofs.Base.{take, AreListNumbers}
use Rattle.spa_rows.proofs.index.list_numbers.Given as goal

-- the lists so far
abbrev pub invariant-loop-owner : goal.invariant-loop-owner
invariant-loop-owner g l = AreListNumbers l.lines g.K.Line.key_of g.L.HasList.list_of (take l.owner-index l.owners) l.numbers.items
