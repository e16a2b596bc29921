use Rattle.spa_student.proofs.Base.{◌≡◌, map, take, length}
use Rattle.spa_student.proofs.cuts.first_lecturer_cuts.Given as goal

abbrev pub invariant-loop-l : goal.invariant-loop-l
invariant-loop-l l = l.cuts.items ≡ map length (take l.l l.instance.rankings)
