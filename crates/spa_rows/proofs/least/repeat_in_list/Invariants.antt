use Rattle.spa_rows.proofs.Base.{◌≡◌, length, IsLeastOf, BadBelow, Repeats}
use Rattle.spa_rows.proofs.least.repeat_in_list.Given as goal

-- the marks' number, and the least row so far
abbrev pub invariant-loop-place : goal.invariant-loop-place
invariant-loop-place g l = record {
  count : length l.marks.items ≡ l.count;
  best : IsLeastOf (BadBelow l.lines g.L.Line.row_of (λ _ x. Repeats (g.L.HasList.list_of x)) l.place) l.best;
}
