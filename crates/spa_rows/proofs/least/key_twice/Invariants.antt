use Rattle.spa_rows.proofs.Base.{IsEarlierKey, IsLeastOf, BadBelow}
use Rattle.spa_rows.proofs.Seen.{IsInTree}
use Rattle.spa_rows.proofs.least.key_twice.Given as goal

-- the keys so far are in the set, and the least row so far
abbrev pub invariant-loop-line : goal.invariant-loop-line
invariant-loop-line g l = record {
  seen : IsInTree l.lines g.L.Line.key_of l.seen l.line-index;
  best : IsLeastOf (BadBelow l.lines g.L.Line.row_of
      (λ j x. IsEarlierKey l.lines g.L.Line.key_of j (g.L.Line.key_of x)) l.line-index) l.best;
}
