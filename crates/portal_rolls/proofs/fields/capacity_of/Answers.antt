use Rattle.portal_rolls.proofs.Base.{arith, rules, take_all}
use Rattle.std.proofs.lemmas.Grind.{common_steps, fold-append}
use Rattle.portal_rolls.proofs.Cut.{capacity_is, ten_more, ten_pow}
use Rattle.portal_rolls.proofs.fields.capacity_of.Goals as goal

pub overflow_mul-value : goal.overflow_mul-value
overflow_mul-value c = omega (arith, ten_pow c.loop-digit.digit-index (omega arith))

pub overflow_add-value : goal.overflow_add-value
overflow_add-value c = omega (arith, ten_pow c.loop-digit.digit-index (omega arith))

pub loop-digit-preserved : goal.loop-digit-preserved
loop-digit-preserved c = search (rules, common_steps, fold-append, ten_more)

pub returns : goal.returns
returns c = search (rules, capacity_is, take_all)
