use Rattle.portal_tables.proofs.Base.{◌≡◌, drop, true, None, rises}
use Rattle.portal_tables.proofs.reading.row_numbers.numbers_rise.Given as goal

abbrev pub invariant-loop-row : goal.invariant-loop-row
invariant-loop-row l = rises l.last (drop l.row-index l.rows) ≡ true → rises None l.rows ≡ true
