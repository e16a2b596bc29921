use Rattle.spa_student.proofs.Base.{arith}
use Rattle.spa_student.proofs.CutSteps.{best_when_settled}
use Rattle.spa_student.proofs.cuts.Progress.run.Goals as goal

pub returns : goal.returns
returns c = best_when_settled c.args.instance.now c.loop-s.self c.loop-s.invariant.state (λ s h. c.loop-s.invariant.settled s (omega arith))
