use Rattle.spa_rows.proofs.Base.{◌≡◌, ◌≢◌, ℕ, ◌<◌, length, get_or}
use Rattle.spa_rows.proofs.least.may_repeat.Given as goal

-- the numbers so far are marked, and none of them repeats
abbrev pub invariant-loop-number : goal.invariant-loop-number
invariant-loop-number l = record {
  count : length l.marks ≡ length l.initial.marks;
  marked : (k d : ℕ) → k < l.number-index → get_or l.marks (get_or l.numbers k d) 0 ≡ l.mark;
  differ : (i j d : ℕ) → i < j → j < l.number-index → get_or l.numbers i d ≢ get_or l.numbers j d;
}
