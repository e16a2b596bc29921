use Rattle.portal_rolls.proofs.Base.{◌≡◌, ◌+◌, ◌*◌, ◌^◌, ◌≤◌, take}
use Rattle.portal_rolls.specs.Lines as spec
use Rattle.portal_rolls.proofs.fields.capacity_of.Given as goal

-- 207 is the most that a byte may be above the digit 0
abbrev pub invariant-loop-digit : goal.invariant-loop-digit
invariant-loop-digit l = (l.value ≡ spec.digits_value (take l.digit-index l.field)) × (l.value + 23 ≤ 23 * 10 ^ l.digit-index)
