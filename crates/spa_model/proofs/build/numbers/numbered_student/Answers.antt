use Rattle.spa_model.proofs.Base.{rules}
use Rattle.spa_model.proofs.build.numbers.numbered_student.Goals as goal

pub returns : goal.returns
returns c = λ keys are. record { key = search rules; choices = rw c.in_ok-own.ensures.items are }
