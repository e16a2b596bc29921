use Rattle.portal_tables.proofs.Base.{◌+◌, map, drop, CountUp, shown_rank, ◌↔◌}
use Rattle.portal_tables.proofs.reading.decode.do_count_up.Given as goal

abbrev pub invariant-loop-i : goal.invariant-loop-i
invariant-loop-i l = CountUp 1 (map shown_rank l.rows) ↔ CountUp (1 + l.i) (map shown_rank (drop l.i l.rows))
