use Rattle.spa_student.proofs.Base.{arith}
use Rattle.spa_student.proofs.CutSteps.{cursors_within}
use Rattle.spa_student.proofs.cuts.Progress.settle.Goals as goal

pub loop-w-smaller : goal.loop-w-smaller
loop-w-smaller c = omega (arith, cursors_within c.args.instance.now c.turn.new.self c.turn.ensures.state.marks, c.in-Some.ensures.moves)
