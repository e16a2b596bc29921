use Rattle.portal_rules.proofs.Base.{List, ◌++◌, map, take, Key, HasTexts}
use Rattle.portal_deciding.proofs.roll_rules.add_codes.Given as goal

-- the codes so far are there
abbrev pub invariant-loop-row : goal.invariant-loop-row
invariant-loop-row g l = (given : List Key) → HasTexts given l.initial.codes
    → HasTexts (given ++ map g.X.Coded.code_of (take l.row-index l.rows)) l.codes
