use Rattle.portal_rules.proofs.Base.{map, reverse, HasRows}
use Rattle.portal_rules.proofs.index.rows_by_key.Given as goal

-- the rows from the last one on are there
abbrev pub invariant-loop-row : goal.invariant-loop-row
invariant-loop-row g l = HasRows g.X.Keyed.key_of (reverse (map (λ row. row.now) l.yielded)) l.table
