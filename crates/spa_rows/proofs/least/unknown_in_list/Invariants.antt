use Rattle.spa_rows.proofs.Base.{[], Contains, map, get_or, IsLeastOf, BadBelow}
use Rattle.spa_rows.proofs.least.unknown_in_list.Given as goal

-- the least row so far
abbrev pub invariant-loop-place : goal.invariant-loop-place
invariant-loop-place g l = IsLeastOf (BadBelow l.lines g.L.Line.row_of
    (λ j _. Contains (get_or (map (λ own. own.items) l.numbers) j []) l.unknown) l.place) l.best
