use Rattle.spa_student.proofs.Base.{arith, rules, get_or_read}
use Rattle.spa_student.proofs.CutSteps.{ranked_in_range, found_worst_at, found_at}
use Rattle.spa_student.proofs.cuts.Progress.worst_at.Goals as goal

pub is_at-requires : goal.is_at-requires
is_at-requires c = search (rules, get_or_read, ranked_in_range)

pub returns-then-is_at-clause-worst : goal.returns-then-is_at-clause-worst
returns-then-is_at-clause-worst c = search (rules, get_or_read, found_worst_at)

pub unreachable-requires : goal.unreachable-requires
unreachable-requires c = found_at c.args.instance.now c.requires.marks.lawful c.args.self.now c.requires.marks c.requires.uncut c.args.p
    c.requires.some.0 c.requires.some.1 (λ j h. c.loop-k.invariant j (omega arith) h)
