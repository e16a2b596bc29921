use Rattle.portal_rules.proofs.Base.{◌≡◌, take}
use Rattle.portal_rules.proofs.rows.copy_keys.Given as goal

abbrev pub invariant-loop-key : goal.invariant-loop-key
invariant-loop-key l = l.copies.items ≡ take l.key-index l.keys
