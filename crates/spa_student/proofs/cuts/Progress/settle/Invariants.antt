use Rattle.spa_student.proofs.Base.{◌≡◌, ◌≢◌, ◌⊎◌, ℕ, ◌-◌, length, sum, IsFree, IsUnderWay, IsPlacedOrExhausted}
use Rattle.std.proofs.Common.{sum_by}
use Rattle.spa_student.proofs.cuts.Progress.settle.Given as goal

-- all who were settled, and s, are settled, but for who is free now
abbrev pub invariant-loop-w : goal.invariant-loop-w
invariant-loop-w l = record {
  state : IsUnderWay l.instance l.self;
  free : IsFree l.instance l.self l.free;
  settled : (x : ℕ) → x ≢ l.free → (x ≡ l.s) ⊎ IsPlacedOrExhausted l.instance l.initial.self x
      → IsPlacedOrExhausted l.instance l.self x;
}

abbrev pub decreases-loop-w : goal.decreases-loop-w
decreases-loop-w l = sum_by length l.instance.choices - sum l.self.cursors.items
