use Rattle.portal_list.proofs.Base.{◌≡◌, ◌++◌, map, take}
use Rattle.portal_list.proofs.roll_checks.push_codes.Given as goal

abbrev pub invariant-loop-row : goal.invariant-loop-row
invariant-loop-row g l = map (λ code. code.now) l.codes.items
    ≡ map (λ code. code.now) l.initial.codes.items ++ map g.T.Coded.code_of (take l.row-index l.rows)
