use Rattle.portal_rules.proofs.Base.{◌≡◌, ◌+◌, ◌≤◌, ◌++◌, drop, reverse, HasRows, HasTexts}
use Rattle.portal_rules.specs.Faults as roll
use Rattle.portal_rules.proofs.RowFaults.{before}
use Rattle.portal_deciding.proofs.new_rows.take_rows.Given as goal

-- what is taken so far stands before what the rest adds
abbrev pub invariant-loop-row : goal.invariant-loop-row
invariant-loop-row g l = record {
  place : l.at ≡ l.row-index;
  few : l.same ≤ l.row-index;
  rows : HasRows g.X.Keyed.key_of (reverse l.new.items ++ l.on_roll) l.register.rows;
  texts : HasTexts (g.R.RollRules.texts_beside l.roll (reverse l.new.items ++ l.on_roll)) l.register.texts;
  rest : roll.take_rows (g.R.RollRules.rules l.roll) 1 l.on_roll l.rows
      ≡ before l.new.items l.same (roll.take_rows (g.R.RollRules.rules l.roll) (l.at + 1) (reverse l.new.items ++ l.on_roll)
      (drop l.row-index l.rows));
}
