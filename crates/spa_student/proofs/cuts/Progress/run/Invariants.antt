use Rattle.spa_student.proofs.Base.{ℕ, ◌<◌, IsUnderWay, IsPlacedOrExhausted}
use Rattle.spa_student.proofs.cuts.Progress.run.Given as goal

-- the students so far are settled
abbrev pub invariant-loop-s : goal.invariant-loop-s
invariant-loop-s l = record {
  state : IsUnderWay l.instance l.self;
  settled : (x : ℕ) → x < l.s → IsPlacedOrExhausted l.instance l.self x;
}
