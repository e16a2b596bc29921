use Rattle.portal_rules.proofs.Base.{map, reverse, HasRows, HasTexts}
use Rattle.portal_deciding.proofs.new_rows.register_of.Given as goal

-- the rows from the last one on are there
abbrev pub invariant-loop-old : goal.invariant-loop-old
invariant-loop-old g l = record {
  rows : HasRows g.X.Keyed.key_of (reverse (map (λ row. row.now) l.yielded)) l.register.rows;
  texts : HasTexts (g.R.RollRules.texts_beside l.roll (reverse (map (λ row. row.now) l.yielded))) l.register.texts;
}
