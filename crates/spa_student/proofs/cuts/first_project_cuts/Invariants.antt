use Rattle.spa_student.proofs.Base.{◌≡◌, map, take, length, ranking_of}
use Rattle.spa_student.proofs.cuts.first_project_cuts.Given as goal

abbrev pub invariant-loop-p : goal.invariant-loop-p
invariant-loop-p l = l.cuts.items ≡ map (λ k. length (ranking_of l.instance k)) (take l.p l.instance.lecturers)
