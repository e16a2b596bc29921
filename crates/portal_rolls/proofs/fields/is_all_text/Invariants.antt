use Rattle.portal_rolls.proofs.Base.{◌≡◌, drop, list_all, is_utf8, fields_of}
use Rattle.portal_rolls.proofs.fields.is_all_text.Given as goal

abbrev pub invariant-loop-i : goal.invariant-loop-i
invariant-loop-i l = list_all is_utf8 (drop l.i (fields_of l.row)) ≡ list_all is_utf8 (fields_of l.row)
