use Rattle.portal_rules.proofs.Base.{◌≡◌, take}
use Rattle.portal_rules.proofs.rows.copy_pairs.Given as goal

abbrev pub invariant-loop-student : goal.invariant-loop-student
invariant-loop-student l = l.copies.items ≡ take l.student-index l.pairs
