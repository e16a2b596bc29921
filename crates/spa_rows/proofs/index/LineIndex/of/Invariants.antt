use Rattle.spa_rows.proofs.Base.{IsIndexOf}
use Rattle.spa_rows.proofs.index.LineIndex.of.Given as goal

-- the keys so far have their places
abbrev pub invariant-loop-place : goal.invariant-loop-place
invariant-loop-place g l = IsIndexOf l.lines g.L.Line.key_of l.place l.places
