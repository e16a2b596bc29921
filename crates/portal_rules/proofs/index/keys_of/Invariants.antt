use Rattle.portal_rules.proofs.Base.{map, take, HasTexts}
use Rattle.portal_rules.proofs.index.keys_of.Given as goal

-- the keys so far are there
abbrev pub invariant-loop-row : goal.invariant-loop-row
invariant-loop-row g l = HasTexts (map g.X.Keyed.key_of (take l.row-index l.rows)) l.keys
